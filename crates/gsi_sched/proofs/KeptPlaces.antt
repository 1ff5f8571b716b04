-- What is kept beside the hub, where a stream or a slot changes, or the state does.
use Rattle.std.proofs.Common.{◌≡◌, ◌≢◌, ℕ, Bool, true, false, cond, ◌==◌, List, length, slice_get, Option, Some, None, option_map, refl, sym, ap, ◌∙◌, subst, inl, inr, arith}
use Rattle.std.specs.Prelude.{⊤, map as map_list}
use Rattle.std.specs.Arc.{arc_value}
use Rattle.std.specs.FinMap as map
use Rattle.std.specs.Ordering.{nat_cmp, eq_by_cmp}
use Rattle.std.proofs.lemmas.Bool.{cases_eq, cond-true, cond-false}
use Rattle.std.proofs.lemmas.Bool.Decides.{nat_tests}
use Rattle.std.proofs.lemmas.Cmp.{nat_cmp_total}
use Rattle.n1ql_value.specs.declared.state.State.{State as Stage}
use Rattle.n1ql_value.specs.declared.state.State.TheVariants.{Deferred, Building}
use Rattle.index_def.specs.LiveIndexes.{Live, AreNumbered, numbered}
use Rattle.dcp_stream.specs.declared.piece.Piece.{Piece}
use Rattle.dcp_stream.specs.Pieces.{Marked, bounds_of}
use Rattle.dcp_stream.specs.Streams.{Stream}
use Rattle.stream_merge.specs.Joined.{Joined}
use Rattle.scan_history.specs.Answers.{answers_of}
use Rattle.scan_history.specs.Events.{Event}
use Rattle.scan_history.specs.First.{is_online}
use Rattle.scan_history.specs.Fold.{State, state_after}
use Rattle.scan_history.specs.Sound.{IsSound}
use Rattle.gsi_hub.specs.Past.{Past, state_of}
use Rattle.gsi_sched.specs.Machine.{Worker, Machine, now_in, with_worker, with_initial, put_at, sent}
use Rattle.gsi_sched.specs.Running.{IsWorking, IsRunning}
use Rattle.gsi_sched.specs.Slots.{Slot, with_piece, IsKept}
use Rattle.gsi_sched.specs.inner.SlotLists.{with_slot, OnSlot, HasSlots, projected_as, online_in, sent_online}
use Rattle.gsi_sched.specs.inner.Following.{IsSlotOf, initial_numbers, Keeps, Follows, IsBuildingIn, IsWorkingIn}
use Rattle.gsi_sched.specs.declared.machine.RunningMachine.{RunningMachine}
use Rattle.gsi_sched.proofs.Served.{put_same}
use Rattle.gsi_sched.proofs.SlotLists.{changed_there, changed_elsewhere, changed_length, sent_if, sent_to_each, sent_length}

-- ---- one member of a family, elsewhere

pub put_elsewhere : {A : Type 0} (i j : ℕ) (a : A) (f : ℕ → A) → j ≢ i → put_at i a f j ≡ f j
put_elsewhere i j a f other = cond-false (j == i) a (f j) (grind (arith, nat_tests, other))

-- ---- one entry of a map by numbers

module _ {A : Type 0} (m : map.FinMap nat_cmp A) (i : ℕ) (a : A) where
  pub inserted_there : map.get (map.insert m i a) i ≡ Some a
  inserted_there =
      map.get-insert nat_cmp_total m i a i ∙ cond-true (eq_by_cmp nat_cmp i i) (Some a) (map.get m i) (grind (arith, nat_tests))

  pub inserted_elsewhere : (j : ℕ) → j ≢ i → map.get (map.insert m i a) j ≡ map.get m j
  inserted_elsewhere j other =
      map.get-insert nat_cmp_total m i a j ∙ cond-false (eq_by_cmp nat_cmp j i) (Some a) (map.get m j) (grind (arith, nat_tests, other))

-- ---- the slot of an index

module _ (n : ℕ) (s : State) (i : ℕ) (index : Live) where
  -- what follows of a kept slot, follows of the slot that is there
  pub of_slot : (w : Worker) (P : Slot → Type 0) → ((slot : Slot) → IsKept n s.log index.def slot w → slot.worker.index ≡ i → P slot) → (o : Option (Option Slot)) → IsSlotOf n s i index w o → OnSlot P o
  of_slot w P then None is = is
  of_slot w P then (Some None) is = is
  of_slot w P then (Some (Some slot)) is = then slot is.0 is.1

  -- a slot that is changed
  pub slot_then : (w v : Worker) (change : Slot → Slot) → ((slot : Slot) → IsKept n s.log index.def slot w → IsKept n s.log index.def (change slot) v)
      → ((slot : Slot) → (change slot).worker.index ≡ slot.worker.index) → (o : Option (Option Slot)) → IsSlotOf n s i index w o → IsSlotOf n s i index v (option_map (option_map change) o)
  slot_then w v change keeps own None is = is
  slot_then w v change keeps own (Some None) is = is
  slot_then w v change keeps own (Some (Some slot)) is = (keeps slot is.0, own slot ∙ is.1)

-- a slot in another state
pub slot_in : (n : ℕ) (s t : State) (i : ℕ) (index later : Live) (w : Worker) → ((slot : Slot) → IsKept n s.log index.def slot w → IsKept n t.log later.def slot w)
    → (o : Option (Option Slot)) → IsSlotOf n s i index w o → IsSlotOf n t i later w o
slot_in n s t i index later w keeps None is = is
slot_in n s t i index later w keeps (Some None) is = is
slot_in n s t i index later w keeps (Some (Some slot)) is = (keeps slot is.0, is.1)

-- ---- what is kept, where something of it changes: in the machine m by the code r, then in the machine u by the code t

module _ (n : ℕ) (s : State) (m : Machine) (r : RunningMachine) (keeps : Keeps n s m r) where
  -- each building or online index has a slot
  pub slots_there : HasSlots s r.slots.items
  slots_there i index found built = of_slot n s i index (m.worker i) (λ slot. ⊤) (λ slot kept own. tt) (slice_get r.slots.items i) (keeps.slots i index found built)

  -- another machine with the same streams and workers, kept by the same
  pub keeps_as : (u : Machine) (t : RunningMachine) → t.streams ≡ r.streams → t.slots.items ≡ r.slots.items → u.maint ≡ m.maint → u.initial ≡ m.initial → u.worker ≡ m.worker → Keeps n s u t
  keeps_as u t streams slots maint initial worker = record {
    maint = ap (λ (x : Joined). x.maint.stream) streams ∙ (keeps.maint ∙ sym maint);
    initial = λ i index found building.
        ap (λ (x : Joined). initial_numbers (map.get x.initial i)) streams ∙ (keeps.initial i index found building ∙ ap (λ (f : ℕ → Stream). Some (f i)) (sym initial));
    slots = λ i index found built.
        subst (λ (f : ℕ → Worker). IsSlotOf n s i index (f i) (slice_get t.slots.items i)) (sym worker)
        (subst (λ items. IsSlotOf n s i index (m.worker i) (slice_get items i)) (sym slots) (keeps.slots i index found built));
    places = ap length slots ∙ keeps.places;
  }

  -- in another state, where each building index was one, and each building or online one was one whose slot stays kept
  pub keeps_in : (t : State) → ((i : ℕ) (later : Live) → numbered i t.live ≡ Some later → later.state ≡ Building → (index : Live) × (numbered i s.live ≡ Some index) × (index.state ≡ Building))
      → ((i : ℕ) (later : Live) → numbered i t.live ≡ Some later → later.state ≢ Deferred
      → (index : Live) × (numbered i s.live ≡ Some index) × (index.state ≢ Deferred) × ((slot : Slot) → IsKept n s.log index.def slot (m.worker i) → IsKept n t.log later.def slot (m.worker i)))
      → Keeps n t m r
  keeps_in t was_building was_built = record {
    maint = keeps.maint;
    initial = λ i later found building. let was = was_building i later found building in keeps.initial i was.0 was.1 was.2;
    slots = λ i later found built.
        let was = was_built i later found built in
        slot_in n s t i was.0 later (m.worker i) was.3 (slice_get r.slots.items i) (keeps.slots i was.0 was.1 was.2);
    places = keeps.places;
  }

  -- the same where the live indexes are the same
  pub keeps_where_live : (t : State) → t.live ≡ s.live
      → ((i : ℕ) (index : Live) (slot : Slot) → IsKept n s.log index.def slot (m.worker i) → IsKept n t.log index.def slot (m.worker i)) → Keeps n t m r
  keeps_where_live t live grows =
      let found_in : (i : ℕ) (index : Live) → numbered i t.live ≡ Some index → numbered i s.live ≡ Some index =
      λ i index found. ap (numbered i) (sym live) ∙ found in
      keeps_in t (λ i later found building. (later, found_in i later found, building))
      (λ i later found built. (later, found_in i later found, built, grows i later))

  -- the maintenance stream changes
  pub maint_changed : (t : RunningMachine) (x : Marked) → t.streams ≡ record r.streams { maint = x } → t.slots.items ≡ r.slots.items → Keeps n s (record m { maint = x.stream }) t
  maint_changed t x streams slots = record {
    maint = ap (λ (y : Joined). y.maint.stream) streams;
    initial = λ i index found building. ap (λ (y : Joined). initial_numbers (map.get y.initial i)) streams ∙ keeps.initial i index found building;
    slots = λ i index found built. subst (λ items. IsSlotOf n s i index (m.worker i) (slice_get items i)) (sym slots) (keeps.slots i index found built);
    places = ap length slots ∙ keeps.places;
  }

  -- the initial stream of an index does
  pub initial_changed : (t : RunningMachine) (i : ℕ) (x : Marked) → t.streams ≡ record r.streams { initial = map.insert r.streams.initial i x } → t.slots.items ≡ r.slots.items
      → Keeps n s (with_initial i x.stream m) t
  initial_changed t i x streams slots = record {
    maint = ap (λ (y : Joined). y.maint.stream) streams ∙ keeps.maint;
    initial = λ j index found building.
        ap (λ (y : Joined). initial_numbers (map.get y.initial j)) streams
        ∙ elim (cases_eq j i) as (λ c. initial_numbers (map.get (map.insert r.streams.initial i x) j) ≡ Some (put_at i x.stream m.initial j)) [
          | inl same ↦
              subst (λ k. initial_numbers (map.get (map.insert r.streams.initial i x) k) ≡ Some (put_at i x.stream m.initial k)) (sym same)
              (ap initial_numbers (inserted_there r.streams.initial i x) ∙ ap (λ (y : Stream). Some y) (sym (put_same i x.stream m.initial)))
          | inr other ↦
              ap initial_numbers (inserted_elsewhere r.streams.initial i x j other)
              ∙ (keeps.initial j index found building ∙ ap (λ (y : Stream). Some y) (sym (put_elsewhere i j x.stream m.initial other)))
        ];
    slots = λ j index found built. subst (λ items. IsSlotOf n s j index (m.worker j) (slice_get items j)) (sym slots) (keeps.slots j index found built);
    places = ap length slots ∙ keeps.places;
  }

  -- the slot of an index changes, and only its worker does
  pub slot_changed_in : (u : Machine) (t : RunningMachine) (i : ℕ) (change : Slot → Slot) → t.streams ≡ r.streams → t.slots.items ≡ with_slot change i r.slots.items
      → u.maint ≡ m.maint → u.initial ≡ m.initial → ((j : ℕ) → j ≢ i → u.worker j ≡ m.worker j)
      → ((index : Live) (slot : Slot) → numbered i s.live ≡ Some index → index.state ≢ Deferred → IsKept n s.log index.def slot (m.worker i) → IsKept n s.log index.def (change slot) (u.worker i))
      → ((slot : Slot) → (change slot).worker.index ≡ slot.worker.index) → Keeps n s u t
  slot_changed_in u t i change streams slots maint initial elsewhere kept own = record {
    maint = ap (λ (x : Joined). x.maint.stream) streams ∙ (keeps.maint ∙ sym maint);
    initial = λ j index found building.
        ap (λ (x : Joined). initial_numbers (map.get x.initial j)) streams ∙ (keeps.initial j index found building ∙ ap (λ (f : ℕ → Stream). Some (f j)) (sym initial));
    slots = λ j index found built.
        subst (λ items. IsSlotOf n s j index (u.worker j) (slice_get items j)) (sym slots) (elim (cases_eq j i) as (λ c. IsSlotOf n s j index (u.worker j) (slice_get (with_slot change i r.slots.items) j)) [
          | inl same ↦
              let at_it : numbered i s.live ≡ Some index = ap (λ k. numbered k s.live) (sym same) ∙ found in
              subst (λ k. IsSlotOf n s k index (u.worker k) (slice_get (with_slot change i r.slots.items) k)) (sym same)
              (subst (IsSlotOf n s i index (u.worker i)) (sym (changed_there change i r.slots.items))
              (slot_then n s i index (m.worker i) (u.worker i) change (λ slot. kept index slot at_it built) own (slice_get r.slots.items i) (keeps.slots i index at_it built)))
          | inr other ↦
              subst (IsSlotOf n s j index (u.worker j)) (sym (changed_elsewhere change i j r.slots.items other))
              (subst (λ w. IsSlotOf n s j index w (slice_get r.slots.items j)) (sym (elsewhere j other)) (keeps.slots j index found built))
        ]);
    places = ap length slots ∙ (changed_length change i r.slots.items ∙ keeps.places);
  }

  -- so it is with a worker in the place of another
  pub slot_changed : (t : RunningMachine) (i : ℕ) (change : Slot → Slot) (w : Worker) → t.streams ≡ r.streams → t.slots.items ≡ with_slot change i r.slots.items
      → ((index : Live) (slot : Slot) → numbered i s.live ≡ Some index → index.state ≢ Deferred → IsKept n s.log index.def slot (m.worker i) → IsKept n s.log index.def (change slot) w)
      → ((slot : Slot) → (change slot).worker.index ≡ slot.worker.index) → Keeps n s (with_worker i w m) t
  slot_changed t i change w streams slots kept own =
      slot_changed_in (with_worker i w m) t i change streams slots refl refl (λ j other. put_elsewhere i j w m.worker other)
      (λ index slot found built was. subst (IsKept n s.log index.def (change slot)) (sym (put_same i w m.worker)) (kept index slot found built was)) own

  -- a piece is sent to each online index
  pub slots_sent : (t : RunningMachine) (made : ℕ) (p : Piece) (online : ℕ → Bool) → t.streams ≡ r.streams → t.slots.items ≡ sent_online s.live p r.slots.items
      → AreNumbered 0 made s.live → ((i : ℕ) (index : Live) → numbered i s.live ≡ Some index → online i ≡ is_online index.state)
      → ((i : ℕ) (index : Live) (slot : Slot) → numbered i s.live ≡ Some index → IsKept n s.log index.def slot (m.worker i)
      → IsKept n s.log index.def (with_piece (projected_as i index.def p) slot) (sent (bounds_of p) (m.worker i)))
      → Keeps n s (record m { worker = λ i. cond (online i) (sent (bounds_of p) (m.worker i)) (m.worker i) }) t
  slots_sent t made p online streams slots numbers is kept = record {
    maint = ap (λ (x : Joined). x.maint.stream) streams ∙ keeps.maint;
    initial = λ i index found building. ap (λ (x : Joined). initial_numbers (map.get x.initial i)) streams ∙ keeps.initial i index found building;
    slots = λ i index found built.
        let was = slice_get r.slots.items i in
        let projected = projected_as i index.def p in
        let w = m.worker i in
        let by : (b : Bool) → IsSlotOf n s i index (cond b (sent (bounds_of p) w) w) (sent_if b projected was) =
        λ b. elim b as (λ b. IsSlotOf n s i index (cond b (sent (bounds_of p) w) w) (sent_if b projected was)) [
          | true ↦
              slot_then n s i index w (sent (bounds_of p) w) (with_piece projected)
              (λ slot. kept i index slot found) (λ slot. refl) was (keeps.slots i index found built)
          | false ↦ keeps.slots i index found built
        ] in
        subst (λ items. IsSlotOf n s i index (cond (online i) (sent (bounds_of p) w) w) (slice_get items i)) (sym slots)
        (subst (IsSlotOf n s i index (cond (online i) (sent (bounds_of p) w) w)) (sym (sent_to_each i 0 made s.live index p r.slots.items numbers found))
        (subst (λ b. IsSlotOf n s i index (cond b (sent (bounds_of p) w) w) (sent_if (is_online index.state) projected was)) (sym (is i index found)) (by (is_online index.state))));
    places = ap length slots ∙ (sent_length (map_list (λ (x : Live). projected_as x.number x.def p) (online_in s.live)) r.slots.items ∙ keeps.places);
  }

-- ---- a machine that is followed

-- all but the streams and the slots is the same
pub record IsBeside (r t : RunningMachine) : Type 0 where
  pub hub : t.hub ≡ r.hub
  pub script : t.script ≡ r.script
  pub answers : t.answers ≡ r.answers

-- the state of the hub is the machine's
pub state_followed : (m : Machine) (r : RunningMachine) → Follows m r → state_of r.hub ≡ now_in r.hub.script.vbuckets m
state_followed m r follows = ap (state_after r.hub.script.vbuckets) follows.events

-- another machine of the same events, which the streams and slots there are now fit
pub follows_on : (m u : Machine) (r t : RunningMachine) → IsBeside r t → Follows m r → u.events ≡ m.events → IsRunning r.hub.script u
    → Keeps r.hub.script.vbuckets (now_in r.hub.script.vbuckets m) u t → Follows u t
follows_on m u r t beside follows events runs keeps = record {
  sound = subst (λ (p : Past). IsSound p.script) (sym beside.hub) follows.sound;
  script = ap arc_value beside.script ∙ (follows.script ∙ ap (λ (p : Past). p.script) (sym beside.hub));
  runs = subst (λ (p : Past). IsRunning p.script u) (sym beside.hub) runs;
  events = ap (λ (p : Past). p.events) beside.hub ∙ (follows.events ∙ sym events);
  keeps =
      subst (λ (p : Past). Keeps p.script.vbuckets (now_in p.script.vbuckets u) u t) (sym beside.hub)
      (subst (λ (es : List Event). Keeps r.hub.script.vbuckets (state_after r.hub.script.vbuckets es) u t) (sym events) keeps);
  answers = beside.answers ∙ (follows.answers ∙ ap (λ (p : Past). answers_of p.script p.events) (sym beside.hub));
}

-- an index that the hub has building or online works in the machine
pub works_there : (m : Machine) (r : RunningMachine) (i : ℕ) → Follows m r → IsWorkingIn r i → IsWorking (now_in r.hub.script.vbuckets m).live i
works_there m r i follows works = subst (λ (s : State). IsWorking s.live i) (state_followed m r follows) works

-- one that is building is so there
pub building_there : (m : Machine) (r : RunningMachine) (i : ℕ) → Follows m r → IsBuildingIn r i
    → (index : Live) × (numbered i (now_in r.hub.script.vbuckets m).live ≡ Some index) × (index.state ≡ Building)
building_there m r i follows building =
    subst (λ (s : State). (index : Live) × (numbered i s.live ≡ Some index) × (index.state ≡ Building)) (state_followed m r follows) building

pub built_not_deferred : (state : Stage) → state ≡ Building → state ≢ Deferred
built_not_deferred state building deferred = let no : Building ≡ Deferred = sym building ∙ deferred in absurd cc

pub building_works : (s : State) (i : ℕ) → (index : Live) × (numbered i s.live ≡ Some index) × (index.state ≡ Building) → IsWorking s.live i
building_works s i building = (building.0, building.1, built_not_deferred building.0.state building.2)
