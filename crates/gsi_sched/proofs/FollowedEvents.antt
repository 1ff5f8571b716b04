-- What an event leads to beside the hub is followed.
use Rattle.std.proofs.Common.{◌≡◌, ◌≢◌, ℕ, zero, suc, ◌<◌, Bool, true, false, cond, ◌==◌, List, [], ◌∷◌, ◌++◌, length, fold, get_or, slice_get, slice_set, Option, Some, None, refl, sym, ap, ◌∙◌, subst, inl, inr, arith, length-set}
use Rattle.std.specs.Arc.{arc_value}
use Rattle.std.specs.List.{AllByRecursion, list_any}
use Rattle.std.specs.Option.{option_map_or}
use Rattle.std.specs.FinMap as map
use Rattle.std.specs.Cmp.{unsigned_tied}
use Rattle.std.proofs.lemmas.Cmp.{nat_cmp_total}
use Rattle.std.proofs.lemmas.Bool.{cases_Bool, ne_eqb, or_cases, true≢false}
use Rattle.seq_vector.specs.Vectors.{IsCovered}
use Rattle.n1ql_value.specs.Limits.{max_indexes}
use Rattle.n1ql_value.specs.declared.state.State.TheVariants.{Deferred, Building}
use Rattle.index_def.specs.LiveIndexes.{Live, numbered}
use Rattle.dcp_stream.specs.Pieces.{Marked}
use Rattle.stream_merge.specs.Joined.{Joined}
use Rattle.stream_merge.specs.Merging.{begun, merged}
use Rattle.scan_history.specs.declared.script.Script.{Script}
use Rattle.scan_history.specs.Answers.{answers_of}
use Rattle.scan_history.specs.Events.{Event}
use Rattle.scan_history.specs.Fold.{State, live_step, step, state_after}
use Rattle.scan_history.specs.Legal.{MayFollow, IsLegal}
use Rattle.scan_history.specs.Sound.{IsSound}
use Rattle.gsi_hub.specs.Past.{Past, state_of}
use Rattle.gsi_sched.specs.Machine.{Worker, Machine, now_in, with_event}
use Rattle.gsi_sched.specs.ClientActions.{merge, going_online, happened}
use Rattle.gsi_sched.specs.Running.{IsWorking, IsRunning}
use Rattle.gsi_sched.specs.Slots.{Slot, first_slot, is_working, begun_slots, AreKept, IsKept}
use Rattle.gsi_sched.specs.inner.Known.{Known}
use Rattle.gsi_sched.specs.inner.SlotLists.{OnSlot, with_begun_slot, with_begun_slots, IsSizedSlot}
use Rattle.gsi_sched.specs.inner.StreamSteps.{with_begun_stream, with_begun_streams, merged_at, merged_all}
use Rattle.gsi_sched.specs.inner.Following.{IsSlotOf, initial_numbers, Keeps, Follows, IsAhead}
use Rattle.gsi_sched.specs.declared.machine.RunningMachine.{RunningMachine}
use Rattle.gsi_sched.proofs.LiveIndexes.{is_it, is_own, found_made}
use Rattle.gsi_sched.proofs.LiveSteps.{not_among}
use Rattle.gsi_sched.proofs.FirstEvents.{by_option}
use Rattle.gsi_sched.proofs.Steps.{event_happens}
use Rattle.gsi_sched.proofs.KeptIndexes.{had_not_begun, event_keeps}
use Rattle.gsi_sched.proofs.SlotPlaces.{get_set_same, get_set_other, stands_at, slot_of, AreSlotted}
use Rattle.gsi_sched.proofs.FollowedParts.{Beside, working_from, is_working_if}

-- what holds of each number holds of that at a place
pub each_at : (P : ℕ → Type 0) (xs : List ℕ) (k d : ℕ) → AllByRecursion P xs → k < length xs → P (get_or xs k d)
each_at P [] k d all low = absurd (omega (arith, low))
each_at P (x ∷ xs) zero d all low = all.0
each_at P (x ∷ xs) (suc k) d all low = each_at P xs k d all.1 (omega (arith, low))

-- ---- indexes whose building begins

module _ (p : Past) where
  begun_one_length : (k : ℕ) (slots : List (Option Slot)) → length (with_begun_slot p k slots) ≡ length slots
  begun_one_length k slots =
      by_option (λ xs. length xs ≡ length slots) (λ (x : Live). slice_set slots k (Some (first_slot k x.def p.script.vbuckets))) slots (numbered k (state_of p).live)
      (λ x found. length-set slots k (Some (first_slot k x.def p.script.vbuckets))) (λ none. refl)

  begun_one_other : (k i : ℕ) (slots : List (Option Slot)) → i ≢ k → slice_get (with_begun_slot p k slots) i ≡ slice_get slots i
  begun_one_other k i slots other =
      by_option (λ xs. slice_get xs i ≡ slice_get slots i) (λ (x : Live). slice_set slots k (Some (first_slot k x.def p.script.vbuckets))) slots (numbered k (state_of p).live)
      (λ x found. get_set_other slots k i (Some (first_slot k x.def p.script.vbuckets)) other) (λ none. refl)

  begun_one_at : (k : ℕ) (slots : List (Option Slot)) (later : Live) → numbered k (state_of p).live ≡ Some later → k < length slots
      → slice_get (with_begun_slot p k slots) k ≡ Some (Some (first_slot k later.def p.script.vbuckets))
  begun_one_at k slots later found low =
      ap (λ o. slice_get (option_map_or (λ (x : Live). slice_set slots k (Some (first_slot k x.def p.script.vbuckets))) o slots) k) found
      ∙ get_set_same slots k (Some (first_slot k later.def p.script.vbuckets)) low

  pub begun_length : (ks : List ℕ) (slots : List (Option Slot)) → length (with_begun_slots p ks slots) ≡ length slots
  begun_length [] slots = refl
  begun_length (k ∷ ks) slots = begun_length ks (with_begun_slot p k slots) ∙ begun_one_length k slots

  begun_other : (ks : List ℕ) (i : ℕ) (slots : List (Option Slot)) → list_any (λ j. i == j) ks ≡ false → slice_get (with_begun_slots p ks slots) i ≡ slice_get slots i
  begun_other [] i slots out = refl
  begun_other (k ∷ ks) i slots out =
      let parts = not_among i k ks out in
      begun_other ks i (with_begun_slot p k slots) parts.1 ∙ begun_one_other k i slots parts.0

  begun_among : (ks : List ℕ) (i : ℕ) (slots : List (Option Slot)) (later : Live) → list_any (λ j. i == j) ks ≡ true → numbered i (state_of p).live ≡ Some later → i < length slots
      → slice_get (with_begun_slots p ks slots) i ≡ Some (Some (first_slot i later.def p.script.vbuckets))
  begun_among [] i slots later has found low = absurd (true≢false (sym has))
  begun_among (k ∷ ks) i slots later has found low = elim (cases_Bool (list_any (λ j. i == j) ks)) [
    | inl there ↦ begun_among ks i (with_begun_slot p k slots) later there found (let same = begun_one_length k slots in omega (arith, same, low))
    | inr out ↦
        let own : slice_get (with_begun_slot p k slots) i ≡ Some (Some (first_slot i later.def p.script.vbuckets)) =
        elim (or_cases (i == k) (list_any (λ j. i == j) ks) has) [
          | inl here ↦
              subst (λ j. slice_get (with_begun_slot p j slots) i ≡ Some (Some (first_slot i later.def p.script.vbuckets))) (is_it i k here) (begun_one_at i slots later found low)
          | inr there ↦ absurd (true≢false (sym there ∙ out))
        ] in
        begun_other ks i (with_begun_slot p k slots) out ∙ own
  ]

get_insert_own : (streams : Joined) (k : ℕ) (x : Marked) → map.get (map.insert streams.initial k x) k ≡ Some x
get_insert_own streams k x =
    map.get-insert nat_cmp_total streams.initial k x k ∙ (ap (λ b. cond b (Some x) (map.get streams.initial k)) (unsigned_tied k k ∙ is_own k))

get_insert_other : (streams : Joined) (k i : ℕ) (x : Marked) → i ≢ k → map.get (map.insert streams.initial k x) i ≡ map.get streams.initial i
get_insert_other streams k i x other =
    map.get-insert nat_cmp_total streams.initial k x i ∙ (ap (λ b. cond b (Some x) (map.get streams.initial i)) (unsigned_tied i k ∙ ne_eqb i k other))

pub get_remove_other : (streams : Joined) (k i : ℕ) → i ≢ k → map.get (map.remove streams.initial k) i ≡ map.get streams.initial i
get_remove_other streams k i other =
    map.get-remove nat_cmp_total streams.initial k i ∙ (ap (λ b. cond b None (map.get streams.initial i)) (unsigned_tied i k ∙ ne_eqb i k other))

module _ (n : ℕ) where
  pub streams_maint : (ks : List ℕ) (streams : Joined) → (with_begun_streams n ks streams).maint ≡ streams.maint
  streams_maint [] streams = refl
  streams_maint (k ∷ ks) streams = streams_maint ks (with_begun_stream n k streams)

  streams_other : (ks : List ℕ) (i : ℕ) (streams : Joined) → list_any (λ j. i == j) ks ≡ false → map.get (with_begun_streams n ks streams).initial i ≡ map.get streams.initial i
  streams_other [] i streams out = refl
  streams_other (k ∷ ks) i streams out =
      let parts = not_among i k ks out in
      streams_other ks i (with_begun_stream n k streams) parts.1 ∙ get_insert_other streams k i (begun n) parts.0

  streams_among : (ks : List ℕ) (i : ℕ) (streams : Joined) → list_any (λ j. i == j) ks ≡ true → map.get (with_begun_streams n ks streams).initial i ≡ Some (begun n)
  streams_among [] i streams has = absurd (true≢false (sym has))
  streams_among (k ∷ ks) i streams has = elim (cases_Bool (list_any (λ j. i == j) ks)) [
    | inl there ↦ streams_among ks i (with_begun_stream n k streams) there
    | inr out ↦
        let own : map.get (with_begun_stream n k streams).initial i ≡ Some (begun n) =
        elim (or_cases (i == k) (list_any (λ j. i == j) ks) has) [
          | inl here ↦ subst (λ j. map.get (with_begun_stream n j streams).initial i ≡ Some (begun n)) (is_it i k here) (get_insert_own streams i (begun n))
          | inr there ↦ absurd (true≢false (sym there ∙ out))
        ] in
        streams_other ks i (with_begun_stream n k streams) out ∙ own
  ]

-- ---- indexes that go online

merged_one_other : (slots : List (Option Slot)) (k i : ℕ) (streams : Joined) → i ≢ k → map.get (merged_at slots k streams).initial i ≡ map.get streams.initial i
merged_one_other slots k i streams other =
    let Same : Joined → Type 0 = λ st. map.get st.initial i ≡ map.get streams.initial i in
    by_option Same (λ (found : Option Slot). option_map_or (λ (slot : Slot). merged k slot.worker.taken.at streams) found streams) streams (slice_get slots k)
    (λ found there. by_option Same (λ (slot : Slot). merged k slot.worker.taken.at streams) streams found (λ slot is. get_remove_other streams k i other) (λ none. refl))
    (λ none. refl)

pub merged_other : (slots : List (Option Slot)) (ks : List ℕ) (i : ℕ) (streams : Joined) → list_any (λ j. i == j) ks ≡ false
    → map.get (merged_all slots ks streams).initial i ≡ map.get streams.initial i
merged_other slots [] i streams out = refl
merged_other slots (k ∷ ks) i streams out =
    let parts = not_among i k ks out in
    merged_other slots ks i (merged_at slots k streams) parts.1 ∙ merged_one_other slots k i streams parts.0

-- the worker of a slot is where the machine's is
abbrev pub IsShownAt : List (Option Slot) → Machine → ℕ → Type 0
IsShownAt slots m i = OnSlot (λ slot. slot.worker.taken.at ≡ (m.worker i).at) (slice_get slots i)

merged_one_maint : (slots : List (Option Slot)) (m : Machine) (k : ℕ) (streams : Joined) → IsShownAt slots m k → streams.maint.stream ≡ m.maint
    → (merged_at slots k streams).maint.stream ≡ (merge m k).maint
merged_one_maint slots m k streams is same = by (slice_get slots k) is
  where
    by : (o : Option (Option Slot)) → OnSlot (λ slot. slot.worker.taken.at ≡ (m.worker k).at) o
        → (option_map_or (λ (found : Option Slot). option_map_or (λ (slot : Slot). merged k slot.worker.taken.at streams) found streams) o streams).maint.stream ≡ (merge m k).maint
    by (Some (Some slot)) at = ap (λ (v : List ℕ). (merged k v streams).maint.stream) at ∙ ap (λ st. (merge (record m { maint = st }) k).maint) same
    by (Some None) at = absurd at
    by None at = absurd at

pub merged_maint : (slots : List (Option Slot)) (ks : List ℕ) (m : Machine) (streams : Joined) → AllByRecursion (IsShownAt slots m) ks → streams.maint.stream ≡ m.maint
    → (merged_all slots ks streams).maint.stream ≡ (fold merge m ks).maint
merged_maint slots [] m streams all same = same
merged_maint slots (k ∷ ks) m streams all same =
    merged_maint slots ks (merge m k) (merged_at slots k streams) all.1 (merged_one_maint slots m k streams all.0 same)

pub merges_events : (is : List ℕ) (m : Machine) → (fold merge m is).events ≡ m.events
merges_events [] m = refl
merges_events (i ∷ is) m = merges_events is (merge m i)

pub merges_worker : (is : List ℕ) (m : Machine) → (fold merge m is).worker ≡ m.worker
merges_worker [] m = refl
merges_worker (i ∷ is) m = merges_worker is (merge m i)

merges_initial : (is : List ℕ) (m : Machine) → (fold merge m is).initial ≡ m.initial
merges_initial [] m = refl
merges_initial (i ∷ is) m = merges_initial is (merge m i)

-- ---- one event ahead

-- a slot, or another where there is none
abbrev slot_or : Slot → Option (Option Slot) → Slot
slot_or other (Some (Some slot)) = slot
slot_or other _ = other

module _ (known : Known) (m : Machine) (e : Event) (old : RunningMachine) (ahead : IsAhead e m old) where
  abbrev script : Script
  script = old.hub.script

  abbrev n : ℕ
  n = script.vbuckets

  abbrev s : State
  s = now_in n m

  abbrev t : State
  t = now_in n (with_event e m)

  pub legal_then : IsLegal script (m.events ++ e ∷ [])
  legal_then = subst (IsLegal script) (merges_events (going_online e) (with_event e m)) ahead.runs_on.legal

  pub may : MayFollow known.some_read.0 script s e
  may = known.followed script m.events e legal_then known.some_read.0 known.some_read.1

  pub state_then : t ≡ step n s e
  state_then = known.below.one_more n m.events e

  pub state_happened : now_in n (happened m e) ≡ t
  state_happened = ap (state_after n) (merges_events (going_online e) (with_event e m))

  pub hub_then : state_of old.hub ≡ t
  hub_then = ap (state_after n) ahead.events

  runs_with : IsRunning script (with_event e m)
  runs_with =
      event_happens known.below script known.some_read.0 m e known.some_read.1 ahead.runs may
      (λ i.
      subst (λ (u : State). IsCovered (u.published i) (m.worker i).at) (state_happened ∙ state_then)
      (subst (λ (w : ℕ → Worker). IsCovered ((now_in n (happened m e)).published i) (w i).at) (merges_worker (going_online e) (with_event e m))
      (ahead.runs_on.serving.worker i).forth))

  abbrev spare : Slot
  spare = first_slot 0 (record { name = []; keys = []; filter = []; primary = false }) n

  abbrev had : ℕ → Slot
  had i = slot_or spare (slice_get old.slots.items i)

  had_kept : AreKept n m had
  had_kept i index found built =
      let at = stands_at n s i index (m.worker i) (slice_get old.slots.items i) (ahead.keeps.slots i index found built) in
      subst (λ o. IsKept n s.log index.def (slot_or spare o) (m.worker i)) (sym at.there) at.kept

  begun_kept : AreKept n (with_event e m) (begun_slots n s t had)
  begun_kept = event_keeps known.below known.stood script m e had ahead.runs runs_with had_kept

  -- What the slots and the streams are then: an index that worked has what it had, and one that works since then has what is new.
  pub record Leads (slots : List (Option Slot)) (streams : Joined) : Type 0 where
    pub worked : (i : ℕ) (later : Live) → numbered i t.live ≡ Some later → later.state ≢ Deferred → is_working s i ≡ true → slice_get slots i ≡ slice_get old.slots.items i
    pub works : (i : ℕ) (later : Live) → numbered i t.live ≡ Some later → later.state ≢ Deferred → is_working s i ≡ false → slice_get slots i ≡ Some (Some (first_slot i later.def n))
    pub places : length slots ≡ max_indexes
    pub flowed : (i : ℕ) (later : Live) → numbered i t.live ≡ Some later → later.state ≡ Building → is_working s i ≡ true
        → (numbered i s.live ≡ Some later) × (map.get streams.initial i ≡ map.get old.streams.initial i)
    pub flows : (i : ℕ) (later : Live) → numbered i t.live ≡ Some later → later.state ≡ Building → is_working s i ≡ false → map.get streams.initial i ≡ Some (begun n)
    pub maint : streams.maint.stream ≡ (happened m e).maint

  module _ (slots : List (Option Slot)) (streams : Joined) (leads : Leads slots streams) where
    slots_then : AreSlotted n t m.worker slots
    slots_then i later found built = by (is_working s i) refl
      where
        by : (b : Bool) → is_working s i ≡ b → IsSlotOf n t i later (m.worker i) (slice_get slots i)
        by true works =
            let index = working_from s i works in
            let at = stands_at n s i index.0 (m.worker i) (slice_get old.slots.items i) (ahead.keeps.slots i index.0 index.1 index.2) in
            let begun_here = subst (λ b. IsKept n t.log later.def (cond b (had i) (option_map_or (λ (x : Live). first_slot i x.def n) (numbered i t.live) (had i))) (m.worker i)) works
            (begun_kept i later found built) in
            slot_of n t i later (m.worker i) (slice_get slots i) at.slot (leads.worked i later found built works ∙ at.there)
            (subst (λ slot. IsKept n t.log later.def slot (m.worker i)) (ap (slot_or spare) at.there) begun_here) at.own
        by false none =
            let begun_here = subst (λ b. IsKept n t.log later.def (cond b (had i) (option_map_or (λ (x : Live). first_slot i x.def n) (numbered i t.live) (had i))) (m.worker i)) none
            (begun_kept i later found built) in
            slot_of n t i later (m.worker i) (slice_get slots i) (first_slot i later.def n) (leads.works i later found built none)
            (subst (λ o. IsKept n t.log later.def (option_map_or (λ (x : Live). first_slot i x.def n) o (had i)) (m.worker i)) found begun_here) refl

    initial_then : (i : ℕ) (later : Live) → numbered i t.live ≡ Some later → later.state ≡ Building → initial_numbers (map.get streams.initial i) ≡ Some (m.initial i)
    initial_then i later found building = by (is_working s i) refl
      where
        by : (b : Bool) → is_working s i ≡ b → initial_numbers (map.get streams.initial i) ≡ Some (m.initial i)
        by true works =
            let was = leads.flowed i later found building works in
            ap initial_numbers was.1 ∙ ahead.keeps.initial i later was.0 building
        by false none =
            ap initial_numbers (leads.flows i later found building none)
            ∙ ap (λ st. Some st) (sym (ahead.runs.serving.fresh i (had_not_begun known.below known.stood script m e had ahead.runs runs_with had_kept i later found none)).1)

    module _ (new : RunningMachine) (beside : Beside old new) (same_slots : new.slots.items ≡ slots) (same_streams : new.streams ≡ streams) where
      keeps_then : Keeps n t (happened m e) new
      keeps_then = record {
        maint = ap (λ (st : Joined). st.maint.stream) same_streams ∙ leads.maint;
        initial = λ i later found building.
            ap (λ (st : Joined). initial_numbers (map.get st.initial i)) same_streams
            ∙ (initial_then i later found building ∙ ap (λ f. Some (f i)) (sym (merges_initial (going_online e) (with_event e m))));
        slots = λ i later found built.
            subst (λ (w : ℕ → Worker). IsSlotOf n t i later (w i) (slice_get new.slots.items i)) (sym (merges_worker (going_online e) (with_event e m)))
            (subst (λ xs. IsSlotOf n t i later (m.worker i) (slice_get xs i)) (sym same_slots) (slots_then i later found built));
        places = ap length same_slots ∙ leads.places;
      }

      pub follows_then : Follows (happened m e) new
      follows_then = record {
        sound = subst IsSound (sym beside.hub_script) ahead.sound;
        script = ap arc_value beside.script ∙ (ahead.script ∙ sym beside.hub_script);
        runs = subst (λ (script : Script). IsRunning script (happened m e)) (sym beside.hub_script) ahead.runs_on;
        events = beside.hub_events ∙ (ahead.events ∙ sym (merges_events (going_online e) (with_event e m)));
        keeps = subst (λ (script : Script). Keeps script.vbuckets (now_in script.vbuckets (happened m e)) (happened m e) new) (sym beside.hub_script)
            (subst (λ (u : State). Keeps n u (happened m e) new) (sym state_happened) keeps_then);
        answers =
            beside.answers ∙ (ahead.answers
            ∙ (ap (λ (script : Script). answers_of script old.hub.events) (sym beside.hub_script) ∙ ap (answers_of new.hub.script) (sym beside.hub_events)));
      }

  -- ---- places and sizes

  pub place_of : (i : ℕ) (index : Live) → numbered i s.live ≡ Some index → i < length old.slots.items
  place_of i index found =
      let holds = known.below.consistent script m.events ahead.runs.legal in
      let low = found_made i 0 (length s.defs) s.live index holds.live found in
      let few = holds.made in
      let places = ahead.keeps.places in
      omega (arith, low, few, places)

  pub place_then : (i : ℕ) (later : Live) → numbered i t.live ≡ Some later → i < length old.slots.items
  place_then i later found =
      let holds = known.below.consistent script (m.events ++ e ∷ []) legal_then in
      let low = found_made i 0 (length t.defs) t.live later holds.live found in
      let few = holds.made in
      let places = ahead.keeps.places in
      omega (arith, low, few, places)

  pub maint_sized : length old.streams.maint.stream.at ≡ n
  maint_sized = ap (λ st. length st.at) ahead.keeps.maint ∙ (ahead.runs.serving.maint.size ∙ known.below.high_size n s.log)

  pub shown_at : (i : ℕ) → IsWorking s.live i → IsShownAt old.slots.items m i
  shown_at i works =
      let at = stands_at n s i works.0 (m.worker i) (slice_get old.slots.items i) (ahead.keeps.slots i works.0 works.1 works.2) in
      subst (OnSlot (λ slot. slot.worker.taken.at ≡ (m.worker i).at)) (sym at.there) (ap (λ (x : Worker). x.at) at.kept.numbers)

  pub sized_at : (i : ℕ) → IsWorking s.live i → IsSizedSlot (length old.streams.maint.stream.at) old.slots.items i
  sized_at i works =
      let at = stands_at n s i works.0 (m.worker i) (slice_get old.slots.items i) (ahead.keeps.slots i works.0 works.1 works.2) in
      subst (OnSlot (λ slot. length slot.worker.taken.at ≡ length old.streams.maint.stream.at)) (sym at.there) (at.kept.worker.at.size ∙ sym maint_sized)

  -- ---- by what is live then

  live_now : (i : ℕ) (later : Live) → numbered i t.live ≡ Some later → numbered i (live_step s.live e) ≡ Some later
  live_now i later found = subst (λ (u : State). numbered i u.live ≡ Some later) state_then found

  is_built_of : (later : Live) → later.state ≡ Building → later.state ≢ Deferred
  is_built_of later building deferred = let no : Building ≡ Deferred = sym building ∙ deferred in absurd cc

  -- where each index that works did before, and has its slot and its stream still
  pub leads_on : (slots : List (Option Slot)) (streams : Joined)
      → ((i : ℕ) (later : Live) → numbered i (live_step s.live e) ≡ Some later → later.state ≢ Deferred
      → (is_working s i ≡ true) × (slice_get slots i ≡ slice_get old.slots.items i))
      → ((i : ℕ) (later : Live) → numbered i (live_step s.live e) ≡ Some later → later.state ≡ Building
      → (numbered i s.live ≡ Some later) × (map.get streams.initial i ≡ map.get old.streams.initial i))
      → length slots ≡ max_indexes → streams.maint.stream ≡ (happened m e).maint → Leads slots streams
  leads_on slots streams did flowed places maint = record {
    worked = λ i later found built works. (did i later (live_now i later found) built).1;
    works = λ i later found built none. absurd (true≢false (sym (did i later (live_now i later found) built).0 ∙ none));
    places = places;
    flowed = λ i later found building works. flowed i later (live_now i later found) building;
    flows = λ i later found building none.
        absurd (true≢false (sym (did i later (live_now i later found) (is_built_of later building)).0 ∙ none));
    maint = maint;
  }

  -- where the building of these begins
  pub leads_begun : (ks : List ℕ)
      → ((i : ℕ) → list_any (λ j. i == j) ks ≡ true → is_working s i ≡ false)
      → ((i : ℕ) (later : Live) → numbered i (live_step s.live e) ≡ Some later → list_any (λ j. i == j) ks ≡ false → numbered i s.live ≡ Some later)
      → m.maint ≡ (happened m e).maint
      → Leads (with_begun_slots old.hub ks old.slots.items) (with_begun_streams n ks old.streams)
  leads_begun ks fresh others maint =
      let slots = old.slots.items in
      let out : (i : ℕ) → is_working s i ≡ true → list_any (λ j. i == j) ks ≡ false = λ i works. elim (cases_Bool (list_any (λ j. i == j) ks)) [
        | inl has ↦ absurd (true≢false (sym works ∙ fresh i has))
        | inr none ↦ none
      ] in
      let has : (i : ℕ) (later : Live) → numbered i t.live ≡ Some later → later.state ≢ Deferred → is_working s i ≡ false → list_any (λ j. i == j) ks ≡ true =
      λ i later found built none. elim (cases_Bool (list_any (λ j. i == j) ks)) [
        | inl inside ↦ inside
        | inr outside ↦ absurd (true≢false (sym (is_working_if s i later (others i later (live_now i later found) outside) built) ∙ none))
      ] in
      record {
        worked = λ i later found built works. begun_other old.hub ks i slots (out i works);
        works = λ i later found built none.
            begun_among old.hub ks i slots later (has i later found built none) (ap (λ (u : State). numbered i u.live) hub_then ∙ found) (place_then i later found);
        places = begun_length old.hub ks slots ∙ ahead.keeps.places;
        flowed = λ i later found building works.
            (others i later (live_now i later found) (out i works), streams_other n ks i old.streams (out i works));
        flows = λ i later found building none. streams_among n ks i old.streams (has i later found (is_built_of later building) none);
        maint = ap (λ (x : Marked). x.stream) (streams_maint n ks old.streams) ∙ (ahead.keeps.maint ∙ maint);
      }
