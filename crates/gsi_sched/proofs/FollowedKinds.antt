-- What each kind of event leads to beside the hub.
use Rattle.std.proofs.Common.{◌≡◌, ◌≢◌, ◌⊎◌, ℕ, ◌+◌, ◌-◌, ◌<◌, Bool, true, false, not, cond, ◌==◌, List, [], ◌∷◌, ◌++◌, length, slice_get, slice_set, Option, Some, None, is_some, filter, refl, sym, ap, ◌∙◌, subst, inl, inr, arith, length-set}
use Rattle.std.specs.Prelude.{⊤}
use Rattle.std.specs.List.{AllByRecursion, list_any}
use Rattle.std.specs.Option.{option_map_or}
use Rattle.std.specs.FinMap as map
use Rattle.std.proofs.lemmas.Bool.{cases_Bool, cond_both, or_cases, ne_eqb, true≢false}
use Rattle.std.proofs.lemmas.Option.{same_Some}
use Rattle.n1ql_value.specs.declared.state.State.{State as Stage}
use Rattle.n1ql_value.specs.declared.state.State.TheVariants.{Deferred, Building, Online}
use Rattle.index_def.specs.declared.definition.IndexDef.{IndexDef}
use Rattle.index_def.specs.LiveIndexes.{Live, AreNumbered, is_numbered, numbered, is_deferred, state_at_creation, with_state, in_state, all_in_state, without}
use Rattle.stream_merge.specs.Merging.{without_initial}
use Rattle.scan_history.specs.Events.{Event, define, build, online, removed}
use Rattle.scan_history.specs.Fold.{Opened, nothing, work, started, picked, State, live_step, step}
use Rattle.scan_history.specs.Legal.{MayGoOnline}
use Rattle.gsi_hub.specs.Past.{state_of}
use Rattle.gsi_sched.specs.Machine.{Machine, now_in, with_event}
use Rattle.gsi_sched.specs.ClientActions.{happened}
use Rattle.gsi_sched.specs.Running.{IsBuilt, IsWorking, indexes_of}
use Rattle.gsi_sched.specs.Slots.{is_working}
use Rattle.gsi_sched.specs.inner.Known.{Known}
use Rattle.gsi_sched.specs.inner.SlotLists.{with_begun_slots, IsSizedSlot, IsLiveNumber}
use Rattle.gsi_sched.specs.inner.StreamSteps.{with_begun_streams, merged_all}
use Rattle.gsi_sched.specs.inner.Following.{Follows, IsAhead, IsOneAhead, HasHappened}
use Rattle.gsi_sched.specs.declared.machine.RunningMachine.{RunningMachine}
use Rattle.gsi_sched.proofs.Served.{each_weaker}
use Rattle.gsi_sched.proofs.LiveIndexes.{is_it, last_found}
use Rattle.gsi_sched.proofs.LiveSteps.{found, not_among, others_stay, changed_among, pushed_other, left_other, left_none}
use Rattle.gsi_sched.proofs.NextEvents.{holds_of_any}
use Rattle.gsi_sched.proofs.Begun.{IsDeferredAt, IsLiveAt, first_is_about}
use Rattle.gsi_sched.proofs.SlotPlaces.{get_set_other}
use Rattle.gsi_sched.proofs.FollowedParts.{is_working_if}
use Rattle.gsi_sched.proofs.FollowedEvents.{legal_then, may, state_then, hub_then, get_remove_other, IsShownAt, merged_other, merged_maint, Leads, place_of, place_then, shown_at, sized_at, leads_on, leads_begun}

-- ---- the newest event

last_of : (events : List Event) (e : Event) → slice_get (events ++ e ∷ []) (length (events ++ e ∷ []) - 1) ≡ Some e
last_of events e = let len = length_more events e in ap (slice_get (events ++ e ∷ [])) (omega (arith, len)) ∙ at_end events e
  where
    length_more : (events : List Event) (e : Event) → length (events ++ e ∷ []) ≡ length events + 1
    length_more [] e = omega arith
    length_more (x ∷ xs) e = let rest = length_more xs e in omega (arith, rest)

    at_end : (events : List Event) (e : Event) → slice_get (events ++ e ∷ []) (length events) ≡ Some e
    at_end [] e = refl
    at_end (x ∷ xs) e = at_end xs e

-- it was read
pub newest_at : (events seen : List Event) (x y : Event) → x ≡ y → Some y ≡ slice_get seen (length seen - 1) → seen ≡ events → Some x ≡ slice_get events (length events - 1)
newest_at events seen x y same is all = ap (λ e. Some e) same ∙ (is ∙ ap (λ es. slice_get es (length es - 1)) all)

pub newest_is : (m : Machine) (e : Event) (old : RunningMachine) → IsAhead e m old → (x : Event) → Some x ≡ slice_get old.hub.events (length old.hub.events - 1) → e ≡ x
newest_is m e old ahead x is =
    same_Some e x (sym (last_of m.events e) ∙ (ap (λ events. slice_get events (length events - 1)) (sym ahead.events) ∙ sym is))

pub has_happened : (old new : RunningMachine) (x : Event) → new.hub.script ≡ old.hub.script → Some x ≡ slice_get old.hub.events (length old.hub.events - 1)
    → ((m : Machine) → IsAhead x m old → Follows (happened m x) new) → HasHappened old new
has_happened old new x script is then = record {
  script = script;
  follows = λ m e ahead.
      let same = newest_is m e old ahead x is in
      subst (λ (y : Event). Follows (happened m y) new) (sym same) (then m (subst (λ (y : Event). IsAhead y m old) same ahead));
}

-- the one that is ahead
pub ahead_by : (old : RunningMachine) (x : Event) → Some x ≡ slice_get old.hub.events (length old.hub.events - 1) → (one : IsOneAhead old) → IsAhead x one.0 old
ahead_by old x is one = subst (λ (y : Event). IsAhead y one.0 old) (newest_is one.0 one.1 old one.2 x is) one.2

-- what the machine's events leave
abbrev state_in : Machine → RunningMachine → State
state_in m old = now_in old.hub.script.vbuckets m

-- ---- events that lead to nothing

abbrev pub LeadsToNothing : Event → Type 0
LeadsToNothing (define c k i deferred def) = deferred ≡ true
LeadsToNothing (build c k indexes) = ⊥
LeadsToNothing (online c k indexes) = ⊥
LeadsToNothing (removed c k i) = ⊥
LeadsToNothing _ = ⊤

pushed_found : (i : ℕ) (live : List Live) (x later : Live) → numbered i (live ++ x ∷ []) ≡ Some later → (numbered i live ≡ Some later) ⊎ (x ≡ later)
pushed_found i [] x later is = by (x.number == i) is
  where
    by : (b : Bool) → found b x None ≡ Some later → (None ≡ Some later) ⊎ (x ≡ later)
    by true is = inr (same_Some x later is)
    by false is = absurd cc
pushed_found i (y ∷ live) x later is = by (y.number == i) is (pushed_found i live x later)
  where
    by : (b : Bool) → found b y (numbered i (live ++ x ∷ [])) ≡ Some later → (numbered i (live ++ x ∷ []) ≡ Some later → (numbered i live ≡ Some later) ⊎ (x ≡ later))
        → (found b y (numbered i live) ≡ Some later) ⊎ (x ≡ later)
    by true is rest = inl is
    by false is rest = rest is

still_live : (live : List Live) (e : Event) → LeadsToNothing e → (i : ℕ) (later : Live) → numbered i (live_step live e) ≡ Some later → later.state ≢ Deferred → numbered i live ≡ Some later
still_live live (define c k j deferred def) none i later is built = elim (pushed_found i live (record { number = j; def = def; state = state_at_creation deferred }) later is) [
  | inl before ↦ before
  | inr new ↦ absurd (built (sym (ap (λ (x : Live). x.state) new) ∙ ap state_at_creation none))
]
still_live live (build c k indexes) none i later is built = absurd none
still_live live (online c k indexes) none i later is built = absurd none
still_live live (removed c k j) none i later is built = absurd none
still_live live _ none i later is built = is

still_maint : (m : Machine) (e : Event) → LeadsToNothing e → m.maint ≡ (happened m e).maint
still_maint m (online c k indexes) none = absurd none
still_maint m _ none = refl

pub leads_to_nothing : (known : Known) (m : Machine) (e : Event) (old : RunningMachine) (ahead : IsAhead e m old) → LeadsToNothing e → Leads known m e old ahead old.slots.items old.streams
leads_to_nothing known m e old ahead none =
    let s = now_in old.hub.script.vbuckets m in
    leads_on known m e old ahead old.slots.items old.streams
    (λ i later found built. (is_working_if s i later (still_live s.live e none i later found built) built, refl))
    (λ i later found building. (still_live s.live e none i later found (λ deferred. let no : Building ≡ Deferred = sym building ∙ deferred in absurd cc), refl))
    ahead.keeps.places (ahead.keeps.maint ∙ still_maint m e none)

-- ---- an index is created, and its building begins

last_is_new : (least made : ℕ) (live : List Live) (x : Live) → AreNumbered least made (live ++ x ∷ []) → numbered x.number live ≡ None
last_is_new least made [] x numbers = refl
last_is_new least made (y ∷ live) x numbers =
    let above = (last_found (y.number + 1) made live x numbers.1).0 in
    ap (λ b. found b y (numbered x.number live)) (ne_eqb y.number x.number (λ same. omega (arith, same, above))) ∙ last_is_new (y.number + 1) made live x numbers.1

-- what is at no index doesn't work
idle_unless : (s : State) (i : ℕ) → numbered i s.live ≡ None → is_working s i ≡ false
idle_unless s i none = ap (λ o. option_map_or (λ (x : Live). not (is_deferred x.state)) o false) none

one_among : (i j : ℕ) → list_any (λ k. i == k) (j ∷ []) ≡ true → i ≡ j
one_among i j has = elim (or_cases (i == j) false has) [ inl here ↦ is_it i j here | inr never ↦ absurd (true≢false (sym never)) ]

module _ (known : Known) (m : Machine) (c k j : ℕ) (deferred : Bool) (def : IndexDef) (old : RunningMachine) (ahead : IsAhead (define c k j deferred def) m old) where
  abbrev x : Live
  x = record { number = j; def = def; state = state_at_creation deferred }

  numbers : AreNumbered 0 (length (step old.hub.script.vbuckets (state_in m old) (define c k j deferred def)).defs) ((state_in m old).live ++ x ∷ [])
  numbers =
      subst (λ (t : State). AreNumbered 0 (length t.defs) t.live) (state_then known m (define c k j deferred def) old ahead)
      (known.below.consistent old.hub.script (m.events ++ (define c k j deferred def) ∷ []) (legal_then known m (define c k j deferred def) old ahead)).live

  created : numbered j (now_in old.hub.script.vbuckets (with_event (define c k j deferred def) m)).live ≡ Some x
  created = subst (λ (t : State). numbered j t.live ≡ Some x) (sym (state_then known m (define c k j deferred def) old ahead)) (last_found 0 (length (step old.hub.script.vbuckets (state_in m old) (define c k j deferred def)).defs) (state_in m old).live x numbers).1

  pub created_is_live : IsLiveNumber (state_of old.hub) j
  created_is_live = (x, ap (λ (t : State). numbered j t.live) (hub_then known m (define c k j deferred def) old ahead) ∙ created)

  pub created_place : j < length old.slots.items
  created_place = place_then known m (define c k j deferred def) old ahead j x created

  pub created_leads : Leads known m (define c k j deferred def) old ahead (with_begun_slots old.hub (j ∷ []) old.slots.items) (with_begun_streams old.hub.script.vbuckets (j ∷ []) old.streams)
  created_leads =
      leads_begun known m (define c k j deferred def) old ahead (j ∷ [])
      (λ i has. idle_unless (state_in m old) i (subst (λ k. numbered k (state_in m old).live ≡ None) (sym (one_among i j has)) (last_is_new 0 (length (step old.hub.script.vbuckets (state_in m old) (define c k j deferred def)).defs) (state_in m old).live x numbers)))
      (λ i later is out. sym (pushed_other i (state_in m old).live x (not_among i j [] out).0) ∙ is)
      refl

-- ---- the building of indexes begins

still_there_one : (i k : ℕ) (state : Stage) (live : List Live) (x : Live) → numbered i live ≡ Some x → IsLiveAt (in_state k state live) i
still_there_one i k state [] x is = absurd cc
still_there_one i k state (y ∷ live) x is = by (is_numbered k y) (still_there_one i k state live)
  where
    behind : (z : Live) → (rest : List Live) → z.number ≡ y.number → ((x : Live) → numbered i live ≡ Some x → IsLiveAt rest i) → IsLiveAt (z ∷ rest) i
    behind z rest same then = here (y.number == i) refl is
      where
        here : (b : Bool) → (y.number == i) ≡ b → found b y (numbered i live) ≡ Some x → IsLiveAt (z ∷ rest) i
        here true own there = record { index = z; found = ap (λ b. found b z (numbered i rest)) (ap (λ k. k == i) same ∙ own) }
        here false other there =
            let at = then x there in
            record { index = at.index; found = ap (λ b. found b z (numbered i rest)) (ap (λ k. k == i) same ∙ other) ∙ at.found }

    by : (b : Bool) → ((x : Live) → numbered i live ≡ Some x → IsLiveAt (in_state k state live) i) → IsLiveAt (cond b (with_state state y ∷ live) (y ∷ in_state k state live)) i
    by true rest = behind (with_state state y) live refl (λ x there. record { index = x; found = there })
    by false rest = behind y (in_state k state live) refl rest

still_there : (i : ℕ) (ks : List ℕ) (state : Stage) (live : List Live) (x : Live) → numbered i live ≡ Some x → IsLiveAt (all_in_state ks state live) i
still_there i [] state live x is = record { index = x; found = is }
still_there i (k ∷ ks) state live x is = let one = still_there_one i k state live x is in still_there i ks state (in_state k state live) one.index one.found

module _ (known : Known) (m : Machine) (c k : ℕ) (ks : List ℕ) (old : RunningMachine) (ahead : IsAhead (build c k ks) m old) where
  deferred : AllByRecursion (IsDeferredAt (state_in m old).live) ks
  deferred =
      first_is_about known.some_read.0 old.hub.script (state_in m old) c (length (state_in m old).defs) (build c k ks) (known.below.consistent old.hub.script m.events ahead.runs.legal).live (may known m (build c k ks) old ahead).1

  pub built_are_live : AllByRecursion (IsLiveNumber (state_of old.hub)) ks
  built_are_live =
      each_weaker (IsDeferredAt (state_in m old).live) (IsLiveNumber (state_of old.hub))
      (λ i at.
      let there = still_there i ks Building (state_in m old).live at.index at.found in
      (there.index, ap (λ (t : State). numbered i t.live) (hub_then known m (build c k ks) old ahead ∙ state_then known m (build c k ks) old ahead) ∙ there.found))
      ks deferred

  pub built_places : AllByRecursion (λ i. i < length old.slots.items) ks
  built_places =
      each_weaker (IsDeferredAt (state_in m old).live) (λ i. i < length old.slots.items) (λ i at. place_of known m (build c k ks) old ahead i at.index at.found) ks deferred

  pub built_leads : Leads known m (build c k ks) old ahead (with_begun_slots old.hub ks old.slots.items) (with_begun_streams old.hub.script.vbuckets ks old.streams)
  built_leads =
      leads_begun known m (build c k ks) old ahead ks
      (λ i has.
      let at = holds_of_any (IsDeferredAt (state_in m old).live) i ks deferred has in
      ap (λ o. option_map_or (λ (x : Live). not (is_deferred x.state)) o false) at.found ∙ ap (λ state. not (is_deferred state)) at.state)
      (λ i later is out. sym (others_stay i ks Building (state_in m old).live out) ∙ is)
      refl

-- ---- indexes go online

each_live : (live : List Live) (numbers : List ℕ) → AllByRecursion (IsBuilt live) numbers → AllByRecursion (IsWorking live) (filter (λ i. is_some (numbered i live)) numbers)
each_live live [] built = tt
each_live live (i ∷ is) built =
    cond_both (is_some (numbered i live)) (i ∷ filter (λ i. is_some (numbered i live)) is) (filter (λ i. is_some (numbered i live)) is) (AllByRecursion (IsWorking live))
    (λ there. (works (numbered i live) refl there, each_live live is built.1)) (λ none. each_live live is built.1)
  where
    works : (o : Option Live) → numbered i live ≡ o → is_some (numbered i live) ≡ true → IsWorking live i
    works None none there = absurd (true≢false (sym there ∙ ap is_some none))
    works (Some index) found there = (index, found, built.0 index found)

online_work : (s : State) (is : List ℕ) (o : Opened) → MayGoOnline s is o → AllByRecursion (IsBuilt s.live) (indexes_of o) → AllByRecursion (IsWorking s.live) is
online_work s is (work numbers since) goes built = subst (AllByRecursion (IsWorking s.live)) (sym goes.0) (each_live s.live numbers built)
online_work s is nothing goes built = absurd goes
online_work s is (started i demand since) goes built = absurd goes
online_work s is (picked i at) goes built = absurd goes

module _ (known : Known) (m : Machine) (c k : ℕ) (ks : List ℕ) (old : RunningMachine) (ahead : IsAhead (online c k ks) m old) where
  work_there : AllByRecursion (IsWorking (state_in m old).live) ks
  work_there = online_work (state_in m old) ks ((state_in m old).client c).opened (may known m (online c k ks) old ahead).1 (ahead.runs.built c)

  pub online_sized : AllByRecursion (IsSizedSlot (length old.streams.maint.stream.at) old.slots.items) ks
  online_sized =
      each_weaker (IsWorking (state_in m old).live) (IsSizedSlot (length old.streams.maint.stream.at) old.slots.items) (λ i works. sized_at known m (online c k ks) old ahead i works) ks work_there

  works_before : (i : ℕ) (later : Live) → numbered i (all_in_state ks Online (state_in m old).live) ≡ Some later → later.state ≢ Deferred → is_working (state_in m old) i ≡ true
  works_before i later is built = elim (cases_Bool (list_any (λ j. i == j) ks)) [
    | inl has ↦ let at = holds_of_any (IsWorking (state_in m old).live) i ks work_there has in is_working_if (state_in m old) i at.0 at.1 at.2
    | inr out ↦ is_working_if (state_in m old) i later (sym (others_stay i ks Online (state_in m old).live out) ∙ is) built
  ]

  flowed : (i : ℕ) (later : Live) → numbered i (all_in_state ks Online (state_in m old).live) ≡ Some later → later.state ≡ Building
      → (numbered i (state_in m old).live ≡ Some later) × (map.get (merged_all old.slots.items ks old.streams).initial i ≡ map.get old.streams.initial i)
  flowed i later is building = elim (cases_Bool (list_any (λ j. i == j) ks)) [
    | inl has ↦ let no : Building ≡ Online = sym building ∙ changed_among i ks Online (state_in m old).live later has is in absurd cc
    | inr out ↦ (sym (others_stay i ks Online (state_in m old).live out) ∙ is, merged_other old.slots.items ks i old.streams out)
  ]

  pub online_leads : Leads known m (online c k ks) old ahead old.slots.items (merged_all old.slots.items ks old.streams)
  online_leads =
      leads_on known m (online c k ks) old ahead old.slots.items (merged_all old.slots.items ks old.streams)
      (λ i later is built. (works_before i later is built, refl)) flowed ahead.keeps.places
      (merged_maint old.slots.items ks (with_event (online c k ks) m) old.streams
      (each_weaker (IsWorking (state_in m old).live) (IsShownAt old.slots.items m) (λ i works. shown_at known m (online c k ks) old ahead i works) ks work_there)
      ahead.keeps.maint)

-- ---- an index is dropped

module _ (known : Known) (m : Machine) (c k j : ℕ) (old : RunningMachine) (ahead : IsAhead (removed c k j) m old) where
  are_numbered : AreNumbered 0 (length (state_in m old).defs) (state_in m old).live
  are_numbered = (known.below.consistent old.hub.script m.events ahead.runs.legal).live

  pub removed_place : j < length old.slots.items
  removed_place =
      let at : IsLiveAt (state_in m old).live j = first_is_about known.some_read.0 old.hub.script (state_in m old) c (length (state_in m old).defs) (removed c k j) are_numbered (may known m (removed c k j) old ahead).1 in
      place_of known m (removed c k j) old ahead j at.index at.found

  other_than : (i : ℕ) (later : Live) → numbered i (without j (state_in m old).live) ≡ Some later → i ≢ j
  other_than i later is same =
      let gone : None ≡ Some later = sym (left_none j 0 (length (state_in m old).defs) (state_in m old).live are_numbered) ∙ subst (λ k. numbered k (without j (state_in m old).live) ≡ Some later) same is in
      absurd cc

  pub removed_leads : Leads known m (removed c k j) old ahead (slice_set old.slots.items j None) (without_initial j old.streams)
  removed_leads =
      leads_on known m (removed c k j) old ahead (slice_set old.slots.items j None) (without_initial j old.streams)
      (λ i later is built.
      let other = other_than i later is in
      (is_working_if (state_in m old) i later (sym (left_other i j (state_in m old).live other) ∙ is) built, get_set_other old.slots.items j i None other))
      (λ i later is building.
      let other = other_than i later is in
      (sym (left_other i j (state_in m old).live other) ∙ is, get_remove_other old.streams j i other))
      (length-set old.slots.items j None ∙ ahead.keeps.places) ahead.keeps.maint
