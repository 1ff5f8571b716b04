-- Lines of the schedule, once an index's number stands for its name: what the code does follows the machine.
use Rattle.std.proofs.Common.{◌≡◌, ◌≢◌, ℕ, List, length, slice_get, map, Option, Some, None, refl, sym, ap, ◌∙◌, subst, arith}
use Rattle.std.specs.Prelude.{⊤, IfSome, IsSomeAnd}
use Rattle.std.specs.Option.{option_map_or}
use Rattle.std.specs.FinMap as finmap
use Rattle.std.proofs.lemmas.Option.{same_Some}
use Rattle.vb_store.specs.declared.mutation.Mutation.{Mutation}
use Rattle.index_def.specs.declared.definition.IndexDef.{IndexDef}
use Rattle.dcp_stream.specs.declared.piece.Piece.{Piece}
use Rattle.dcp_stream.specs.Pieces.{Marked, PieceStands, after, back_to}
use Rattle.dcp_stream.specs.Streams.{Bounds, rewound}
use Rattle.key_eval.specs.declared.projected.Projected.{Projected}
use Rattle.key_eval.specs.Stands.{ProjectedStands}
use Rattle.key_eval.specs.Versions.{version_of}
use Rattle.index_snapshot.specs.Workers.{Worker as RowWorker, offered, applied}
use Rattle.stability.specs.declared.offer.Offer.{Offer}
use Rattle.stability.specs.declared.offer.Offer.TheVariants.{Next, Repeat, Gap}
use Rattle.scan_history.specs.Fold.{State}
use Rattle.gsi_sched.specs.Machine.{Worker, Machine, now_in, high_in, with_worker, with_initial, unsent, taken}
use Rattle.gsi_sched.specs.ScheduleLines.{deliver, lose, rewind, rewind_to}
use Rattle.gsi_sched.specs.Running.{IsFlowing}
use Rattle.gsi_sched.specs.Slots.{Slot, without_piece, after_delivery, IsKept}
use Rattle.gsi_sched.specs.inner.Below.{Below}
use Rattle.gsi_sched.specs.inner.Stood.{Stood}
use Rattle.gsi_sched.specs.inner.SlotLists.{with_slot, OnSlot, Takes, TakesFrom, projected_as}
use Rattle.gsi_sched.specs.inner.StreamSteps.{OnInitial}
use Rattle.gsi_sched.specs.inner.Following.{initial_numbers, Keeps, Follows, IsFollowing, Goes, IsBuildingIn, IsWorkingIn}
use Rattle.gsi_sched.specs.declared.machine.RunningMachine.{RunningMachine}
use Rattle.gsi_sched.proofs.Served.{each_there, put_same}
use Rattle.gsi_sched.proofs.KeptSlots.{loses, delivers}
use Rattle.gsi_sched.proofs.KeptPlaces.{of_slot, slots_there, maint_changed, initial_changed, slot_changed_in, slot_changed, put_elsewhere, IsBeside, follows_on, works_there, building_there, building_works}
use Rattle.gsi_sched.proofs.Turns.{deliver_keeps, lose_keeps, rewind_keeps, rewind_to_keeps}

-- what becomes of a piece in an index stands for the mutations too, and has its numbers
pub projected_stands : (n : ℕ) (log : List Mutation) (i : ℕ) (def : IndexDef) (p : Piece) → PieceStands n log p → ProjectedStands n def log (projected_as i def p)
projected_stands n log i def p stands = record {
  numbered = stands.numbered;
  vbucket = stands.vbucket;
  begins = omega (arith, stands.begins, stands.first);
  some = stands.some;
  last = stands.last;
  reached = stands.reached;
  holds = ap (map (version_of def)) stands.holds;
}

-- a delivery leaves the number of an index, and the size of its worker's vector
applied_index : (p : Projected) (o : Offer) (w : RowWorker) → (applied p o w).index ≡ w.index
applied_index p (Next after) w = refl
applied_index p Repeat w = refl
applied_index p (Gap have from) w = refl

delivered_index : (place : ℕ) (slot : Slot) → (after_delivery place slot).worker.index ≡ slot.worker.index
delivered_index place slot = by (slice_get slot.inbox place)
  where
    by : (o : Option Projected) → (option_map_or (λ p. let s : Slot = record { worker = applied p (offered p slot.worker) slot.worker; inbox = (without_piece place slot).inbox } in s) o slot).worker.index ≡ slot.worker.index
    by None = refl
    by (Some p) = applied_index p (offered p slot.worker) slot.worker

pub on_some : {A : Type 0} (P Q : A → Type 0) → ((x : A) → P x → Q x) → (o : Option A) → IsSomeAnd o P → IsSomeAnd o Q
on_some P Q then None is = is
on_some P Q then (Some x) is = then x is

-- ---- streams that are followed

-- the initial stream of a building index
pub initial_there : (r : RunningMachine) (m : Machine) (i : ℕ) → Follows m r → IsBuildingIn r i → initial_numbers (finmap.get r.streams.initial i) ≡ Some (m.initial i)
initial_there r m i follows building =
    let there = building_there m r i follows building in
    follows.keeps.initial i there.0 there.1 there.2

module _ (below : Below) (r : RunningMachine) (m : Machine) where
  abbrev high : List ℕ
  high = high_in r.hub.script.vbuckets m

  pub maint_flows : Follows m r → IsFlowing high r.streams.maint.stream
  maint_flows follows = subst (IsFlowing high) (sym follows.keeps.maint) follows.runs.serving.maint

  pub initial_flows : (i : ℕ) → Follows m r → IsBuildingIn r i → OnInitial i (λ x. IsFlowing high x.stream) r.streams
  initial_flows i follows building = by (finmap.get r.streams.initial i) (initial_there r m i follows building)
    where
      by : (o : Option Marked) → initial_numbers o ≡ Some (m.initial i) → IsSomeAnd o (λ x. IsFlowing high x.stream)
      by None is = absurd cc
      by (Some x) is = subst (IsFlowing high) (sym (same_Some x.stream (m.initial i) is)) (follows.runs.serving.initial i)

  sized_as : (to : List ℕ) → length to ≡ r.hub.script.vbuckets → (x : Marked) → IsFlowing high x.stream → length x.stream.at ≡ length to
  sized_as to size x flows = flows.size ∙ (below.high_size r.hub.script.vbuckets (now_in r.hub.script.vbuckets m).log ∙ sym size)

  pub maint_sized : Follows m r → (to : List ℕ) → length to ≡ r.hub.script.vbuckets → length r.streams.maint.stream.at ≡ length to
  maint_sized follows to size = sized_as to size r.streams.maint (maint_flows follows)

  pub initial_sized : (i : ℕ) → Follows m r → IsBuildingIn r i → (to : List ℕ) → length to ≡ r.hub.script.vbuckets → OnInitial i (λ x. length x.stream.at ≡ length to) r.streams
  initial_sized i follows building to size =
      on_some (λ x. IsFlowing high x.stream) (λ x. length x.stream.at ≡ length to) (sized_as to size) (finmap.get r.streams.initial i) (initial_flows i follows building)

module _ (below : Below) (stood : Stood) (r : RunningMachine) where
  abbrev n : ℕ
  n = r.hub.script.vbuckets

  -- ---- inboxes

  pub slot_there : (i : ℕ) → IsFollowing r → IsWorkingIn r i → OnSlot (λ slot. ⊤) (slice_get r.slots.items i)
  slot_there i following works =
      let there = works_there following.0 r i following.1 works in
      slots_there n (now_in n following.0) following.0 r following.1.keeps i there.0 there.1 there.2

  -- a piece that waits can be given to the worker
  pub takes_from : (place i : ℕ) → IsFollowing r → IsWorkingIn r i → OnSlot (TakesFrom place) (slice_get r.slots.items i)
  takes_from place i following works =
      let m = following.0 in
      let s = now_in n m in
      let there = works_there m r i following.1 works in
      of_slot n s i there.0 (m.worker i) (TakesFrom place) (λ slot kept own. of_piece slot s there.0.def (m.worker i) kept (slice_get slot.inbox place) refl)
      (slice_get r.slots.items i) (following.1.keeps.slots i there.0 there.1 there.2)
    where
      of_piece : (slot : Slot) (s : State) (def : IndexDef) (w : Worker) → IsKept n s.log def slot w → (o : Option Projected) → slice_get slot.inbox place ≡ o → IfSome o (Takes slot)
      of_piece slot s def w kept None none = tt
      of_piece slot s def w kept (Some p) found =
          let stands = each_there (ProjectedStands n def s.log) slot.inbox place p kept.pieces found in
          record { vbucket = omega (arith, stands.vbucket, kept.worker.at.size); some = stands.some; last = stands.last }

  module _ (t : RunningMachine) (beside : IsBeside r t) where
    pub lose_goes : (place i : ℕ) → IsWorkingIn r i → t.streams ≡ r.streams → t.slots.items ≡ with_slot (without_piece place) i r.slots.items → Goes (lose n place i) r t
    lose_goes place i works streams slots = record {
      script = ap (λ p. p.script) beside.hub;
      follows = λ m follows.
          let s = now_in n m in
          follows_on m (lose n place i m) r t beside follows refl (lose_keeps below r.hub.script m place i (works_there m r i follows works) follows.runs)
          (slot_changed n s m r follows.keeps t i (without_piece place) (unsent place (m.worker i)) streams slots
          (λ index slot found built kept. loses stood n s.log index.def place slot (m.worker i) kept) (λ slot. refl));
    }

    pub deliver_goes : (place i : ℕ) → IsWorkingIn r i → t.streams ≡ r.streams → t.slots.items ≡ with_slot (after_delivery place) i r.slots.items → Goes (deliver n place i) r t
    deliver_goes place i works streams slots = record {
      script = ap (λ p. p.script) beside.hub;
      follows = λ m follows.
          let s = now_in n m in
          let u = deliver n place i m in
          let w = m.worker i in
          let does : Option Bounds → Machine = λ o. option_map_or (λ b. with_worker i (taken b (unsent place w)) m) o m in
          let numbers : Option Bounds → Worker = λ o. option_map_or (λ b. taken b (unsent place w)) o w in
          let same_maint : (o : Option Bounds) → (does o).maint ≡ m.maint = λ o. elim o as (λ o. (does o).maint ≡ m.maint) [ None ↦ refl | Some b ↦ refl ] in
          let same_initial : (o : Option Bounds) → (does o).initial ≡ m.initial = λ o. elim o as (λ o. (does o).initial ≡ m.initial) [ None ↦ refl | Some b ↦ refl ] in
          let same_events : (o : Option Bounds) → (does o).events ≡ m.events = λ o. elim o as (λ o. (does o).events ≡ m.events) [ None ↦ refl | Some b ↦ refl ] in
          let others : (o : Option Bounds) (j : ℕ) → j ≢ i → (does o).worker j ≡ m.worker j =
          λ o. elim o as (λ o. (j : ℕ) → j ≢ i → (does o).worker j ≡ m.worker j) [
            | None ↦ λ j other. refl
            | Some b ↦ λ j other. put_elsewhere i j (taken b (unsent place w)) m.worker other
          ] in
          let own : (o : Option Bounds) → (does o).worker i ≡ numbers o =
          λ o. elim o as (λ o. (does o).worker i ≡ numbers o) [ None ↦ refl | Some b ↦ put_same i (taken b (unsent place w)) m.worker ] in
          let found : Option Bounds = slice_get w.inbox place in
          follows_on m u r t beside follows (same_events found) (deliver_keeps below r.hub.script m place i (works_there m r i follows works) follows.runs)
          (slot_changed_in n s m r follows.keeps u t i (after_delivery place) streams slots (same_maint found) (same_initial found) (others found)
          (λ index slot found_it built kept.
          subst (IsKept n s.log index.def (after_delivery place slot)) (sym (own found)) (delivers stood n s.log index.def place slot w kept))
          (delivered_index place));
    }

-- ---- streams that go back

module _ (below : Below) (r t : RunningMachine) (beside : IsBeside r t) where
  pub rewind_goes : (to : List ℕ) → length to ≡ r.hub.script.vbuckets → t.streams ≡ record r.streams { maint = back_to to r.streams.maint } → t.slots.items ≡ r.slots.items → Goes (rewind to) r t
  rewind_goes to size streams slots = record {
    script = ap (λ p. p.script) beside.hub;
    follows = λ m follows.
        let n = r.hub.script.vbuckets in
        let s = now_in n m in
        follows_on m (rewind to m) r t beside follows refl (rewind_keeps below r.hub.script m to size follows.runs)
        (subst (λ x. Keeps n s (record m { maint = x }) t) (ap (rewound to) follows.keeps.maint) (maint_changed n s m r follows.keeps t (back_to to r.streams.maint) streams slots));
  }

  pub rewind_to_goes : (to : List ℕ) (i : ℕ) → length to ≡ r.hub.script.vbuckets → IsBuildingIn r i
      → OnInitial i (λ x. t.streams ≡ record r.streams { initial = finmap.insert r.streams.initial i (back_to to x) }) r.streams → t.slots.items ≡ r.slots.items → Goes (rewind_to to i) r t
  rewind_to_goes to i size building streams slots = record {
    script = ap (λ p. p.script) beside.hub;
    follows = λ m follows.
        let n = r.hub.script.vbuckets in
        let s = now_in n m in
        follows_on m (rewind_to to i m) r t beside follows refl
        (rewind_to_keeps below r.hub.script m to i (building_works s i (building_there m r i follows building)) size follows.runs)
        (by m follows (finmap.get r.streams.initial i) (initial_there r m i follows building) streams);
  }
    where
      by : (m : Machine) → Follows m r → (o : Option Marked) → initial_numbers o ≡ Some (m.initial i)
          → IsSomeAnd o (λ x. t.streams ≡ record r.streams { initial = finmap.insert r.streams.initial i (back_to to x) }) → Keeps r.hub.script.vbuckets (now_in r.hub.script.vbuckets m) (rewind_to to i m) t
      by m follows None is on = absurd on
      by m follows (Some x) is on =
          subst (λ y. Keeps r.hub.script.vbuckets (now_in r.hub.script.vbuckets m) (with_initial i y m) t) (ap (rewound to) (same_Some x.stream (m.initial i) is))
          (initial_changed r.hub.script.vbuckets (now_in r.hub.script.vbuckets m) m r follows.keeps t i (back_to to x) on slots)
