-- A client's request that is open: what it waits for, and its next event.
use Rattle.std.proofs.Common.{◌≡◌, ◌⊎◌, ℕ, ◌+◌, ◌<◌, Bool, true, false, not, ◌&&◌, ◌==◌, List, [], ◌∷◌, ◌++◌, length, map, fold, Option, Some, None, MatchOption, is_none, refl, sym, ap, ◌∙◌, subst, inl, inr, arith}
use Rattle.std.specs.Prelude.{⊤}
use Rattle.std.specs.Arc.{arc_value}
use Rattle.std.specs.List.{AllByRecursion, filter, list_any}
use Rattle.std.specs.Option.{option_map_or}
use Rattle.std.proofs.lemmas.Bool.{cond-true, cond-false, false_from_ne_true, not_from_false, and_from, true≢false}
use Rattle.std.proofs.lemmas.Bool.Decides.{nat_tests}
use Rattle.std.proofs.lemmas.Option.{same_Some}
use Rattle.seq_vector.specs.Vectors.{IsCovered, covers, first_short}
use Rattle.vb_store.specs.Mutations.{high_of}
use Rattle.index_def.specs.LiveIndexes.{Live, AreNumbered, numbered}
use Rattle.index_snapshot.specs.declared.snapshot.Snapshot.{Snapshot}
use Rattle.index_snapshot.specs.Stands.{SnapshotStands}
use Rattle.scan_coord.specs.declared.decision.Decision.TheVariants as decision
use Rattle.scan_coord.specs.Decisions.{decision_at, decision_of}
use Rattle.scan_history.specs.declared.script.Script.{Script}
use Rattle.scan_history.specs.Answers.{answers_of, definition_in, started_definition}
use Rattle.scan_history.specs.Consistent.{IsOpenSince}
use Rattle.scan_history.specs.Events.{Event, answer}
use Rattle.scan_history.specs.First.{command_at}
use Rattle.scan_history.specs.Fold.{Opened, nothing, work, started, picked, Client as Part, State}
use Rattle.scan_history.specs.Legal.{IfLive, MayNotYet, MayFollow, IsLegal, waits}
use Rattle.scan_history.specs.NextEvent.{next_event}
use Rattle.scan_history.specs.Readings.{AreRead}
use Rattle.gsi_hub.specs.Commands.{IsRequest}
use Rattle.gsi_hub.specs.Past.{Past, state_of, part_in, next_command, Adds, Acted}
use Rattle.gsi_hub.specs.Snapshots.{IsNewest, IsNewestAmong, IsNewestOf}
use Rattle.gsi_hub.specs.Stages.{OnRequest}
use Rattle.gsi_sched.specs.Machine.{Machine, now_in, high_in, with_event}
use Rattle.gsi_sched.specs.ClientActions.{awaited, awaited_by, catch_up, caught_up, merge, going_online, happened, go_on, act}
use Rattle.gsi_sched.specs.Running.{IsBuilt, IsWorking, indexes_of, IsRunning}
use Rattle.gsi_sched.specs.declared.machine.RunningMachine.{RunningMachine}
use Rattle.gsi_sched.specs.inner.ClientTurns.{IsStarted, IsShort, IsShortOf, IsScanAt, IsUntold, IsSnapshotFor}
use Rattle.gsi_sched.specs.inner.Following.{Follows, Goes, GoesReading}
use Rattle.gsi_sched.specs.inner.Known.{Known}
use Rattle.gsi_sched.proofs.LiveIndexes.{found_is}
use Rattle.gsi_sched.proofs.Steps.{each_found}
use Rattle.gsi_sched.proofs.CatchUps.{IsQuiet, quiet_self, caught_one}
use Rattle.gsi_sched.proofs.ClientSteps.{next_is_own, happened_keeps, next_may}
use Rattle.gsi_sched.proofs.Answers.{IsSilent, answers_same}
use Rattle.gsi_sched.proofs.Followed.{same_past, same_state, IsQuietEvent, event_followed, goes_as, TextReading}

-- ---- what a request waits for

and_false : (a b : Bool) → b ≡ false → (a && b) ≡ false
and_false true b fails = fails
and_false false b fails = refl

filter_none : {A : Type 0} (test : A → Bool) (xs : List A) → ((x : A) → test x ≡ false) → filter test xs ≡ []
filter_none test [] none = refl
filter_none test (x ∷ xs) none = cond-false (test x) (x ∷ filter test xs) (filter test xs) (none x) ∙ filter_none test xs none

abbrev is_it_and : (i : ℕ) → Bool → Live → Bool
is_it_and i also index = index.number == i && also

-- where no live index has a number, none of it is among those that pass
filter_unfound : (i : ℕ) (also : Bool) (live : List Live) → numbered i live ≡ None → filter (is_it_and i also) live ≡ []
filter_unfound i also [] none = refl
filter_unfound i also (x ∷ live) none =
    let so = is_it_and i also in
    let by : (b : Bool) → (x.number == i) ≡ b → filter so (x ∷ live) ≡ [] = λ b. elim b as (λ b. (x.number == i) ≡ b → filter so (x ∷ live) ≡ []) [
      | true ↦ λ is. let found : None ≡ Some x = sym none ∙ cond-true (x.number == i) (Some x) (numbered i live) is in absurd cc
      | false ↦ λ other.
          cond-false (so x) (x ∷ filter so live) (filter so live) (ap (λ b. b && also) other)
          ∙ filter_unfound i also live (sym (cond-false (x.number == i) (Some x) (numbered i live) other) ∙ none)
    ] in
    by (x.number == i) refl

unfound_below : (i least made : ℕ) (live : List Live) → AreNumbered least made live → i < least → numbered i live ≡ None
unfound_below i least made [] h low = refl
unfound_below i least made (x ∷ live) h low =
    let above = h.0 in
    cond-false (x.number == i) (Some x) (numbered i live) (grind (arith, nat_tests, low, above)) ∙ unfound_below i (x.number + 1) made live h.1 (omega (arith, low, above))

-- where one has it, that one alone is
filter_found : (i least made : ℕ) (also : Bool) (live : List Live) (index : Live) → AreNumbered least made live → numbered i live ≡ Some index → also ≡ true
    → filter (is_it_and i also) live ≡ index ∷ []
filter_found i least made also [] index h found holds_so = absurd cc
filter_found i least made also (x ∷ live) index h found holds_so =
    let so = is_it_and i also in
    let by : (b : Bool) → (x.number == i) ≡ b → filter so (x ∷ live) ≡ index ∷ [] = λ b. elim b as (λ b. (x.number == i) ≡ b → filter so (x ∷ live) ≡ index ∷ []) [
      | true ↦ λ is.
          let it : x ≡ index = same_Some x index (sym (cond-true (x.number == i) (Some x) (numbered i live) is) ∙ found) in
          let low : i < x.number + 1 = grind (arith, nat_tests, is) in
          let none : filter so live ≡ [] = filter_unfound i also live (unfound_below i (x.number + 1) made live h.1 low) in
          cond-true (so x) (x ∷ filter so live) (filter so live) (and_from (x.number == i) also is holds_so)
          ∙ ap (λ rest. x ∷ rest) none ∙ ap (λ (y : Live). y ∷ []) it
      | false ↦ λ other.
          cond-false (so x) (x ∷ filter so live) (filter so live) (ap (λ b. b && also) other)
          ∙ filter_found i (x.number + 1) made also live index h.1 (sym (cond-false (x.number == i) (Some x) (numbered i live) other) ∙ found) holds_so
    ] in
    by (x.number == i) refl

abbrev its_number : Live → ℕ
its_number index = index.number

module _ (waiting : Bool) (s : State) (i : ℕ) (demand since : List ℕ) where
  abbrev is_short : Bool
  is_short = not (covers (s.published i) demand) && waiting

  awaits_none : is_short ≡ false → awaited waiting s (started i demand since) ≡ []
  awaits_none fails = ap (map its_number) (filter_none (is_it_and i is_short) s.live (λ (index : Live). and_false (index.number == i) is_short fails))

  pub covered_awaits_none : covers (s.published i) demand ≡ true → awaited waiting s (started i demand since) ≡ []
  covered_awaits_none covered = awaits_none (ap (λ b. not b && waiting) covered)

  pub impatient_awaits_none : waiting ≡ false → awaited waiting s (started i demand since) ≡ []
  impatient_awaits_none never = awaits_none (and_false (not (covers (s.published i) demand)) waiting never)

  pub dropped_awaits_none : numbered i s.live ≡ None → awaited waiting s (started i demand since) ≡ []
  dropped_awaits_none dropped = ap (map its_number) (filter_unfound i is_short s.live dropped)

  pub short_awaits_it : (made : ℕ) (index : Live) → AreNumbered 0 made s.live → numbered i s.live ≡ Some index → covers (s.published i) demand ≡ false → waiting ≡ true
      → awaited waiting s (started i demand since) ≡ i ∷ []
  short_awaits_it made index numbers found short waited =
      ap (map its_number)
      (filter_found i 0 made is_short s.live index numbers found (and_from (not (covers (s.published i) demand)) waiting (not_from_false (covers (s.published i) demand) short) waited))
      ∙ ap (λ j. j ∷ []) (found_is i s.live index found)

-- ---- what is open

pub record IsOpenRequest (o : Opened) (IsIndex : ℕ → Type 0) : Type 0 where
  pub i : ℕ
  pub demand : List ℕ
  pub since : List ℕ
  pub opened : o ≡ started i demand since
  pub index : IsIndex i

pub open_request : (o : Opened) (IsIndex : ℕ → Type 0) → IsStarted o IsIndex → IsOpenRequest o IsIndex
open_request nothing IsIndex h = absurd h
open_request (work numbers since) IsIndex h = absurd h
open_request (started i demand since) IsIndex h = record { i = i; demand = demand; since = since; opened = refl; index = h }
open_request (picked i at) IsIndex h = absurd h

pub started_is : (o : Opened) (IsIndex : ℕ → Type 0) (i : ℕ) (demand since : List ℕ) → o ≡ started i demand since → IsIndex i → IsStarted o IsIndex
started_is o IsIndex i demand since is h = subst (λ o. IsStarted o IsIndex) (sym is) h

pub on_request : (o : Opened) (P : ℕ → List ℕ → Type 0) (i : ℕ) (demand since : List ℕ) → o ≡ started i demand since → OnRequest o P → P i demand
on_request o P i demand since is h = subst (λ o. OnRequest o P) is h

pub request_is : (o : Opened) (P : ℕ → List ℕ → Type 0) (i : ℕ) (demand since : List ℕ) → o ≡ started i demand since → P i demand → OnRequest o P
request_is o P i demand since is h = subst (λ o. OnRequest o P) (sym is) h

-- ---- a live index, and its newest snapshot

pub live_if : (i : ℕ) (s : State) (P : Live → Type 0) (index : Live) → numbered i s.live ≡ Some index → P index → IfLive i s P
live_if i s P index found p = subst (λ (o : Option Live). MatchOption o ⊥ P) (sym found) p

pub live_there : (o : Option Live) (P : Live → Type 0) → MatchOption o ⊥ P → (index : Live) × (o ≡ Some index) × P index
live_there None P h = absurd h
live_there (Some index) P h = (index, refl, h)

pub newest_there : (n : ℕ) (s : State) (o : Option Live) (x : Snapshot) → IsNewestAmong n s o (Some x) → (index : Live) × (o ≡ Some index) × IsNewest n s index x
newest_there n s None x h = absurd h
newest_there n s (Some index) x h = (index, refl, h)

-- ---- whether the newest publication covers the demand

decides_short : (wanted newest : List ℕ) (o : Option ℕ) (vb want have : ℕ) → first_short newest wanted ≡ o → decision_at wanted newest o ≡ decision.NotYet vb want have
    → covers newest wanted ≡ true → ⊥
decides_short wanted newest None vb want have is decided covered = absurd cc
decides_short wanted newest (Some v) vb want have is decided covered = true≢false (sym covered ∙ ap is_none is)

pub not_yet_short : (known : Known) (demand board : List ℕ) (vb want have : ℕ) → decision_of demand board ≡ decision.NotYet vb want have → ¬ IsCovered demand board
not_yet_short known demand board vb want have decided covered =
    decides_short demand board (first_short board demand) vb want have refl decided ((known.below.tells board demand).1 covered)

-- ---- the machine at a client's request

module _ (known : Known) (r : RunningMachine) (c : ℕ) where
  abbrev script : Script
  script = r.hub.script

  abbrev n : ℕ
  n = script.vbuckets

  abbrev s : State
  s = state_of r.hub

  -- nothing has to be caught up before the client's next event
  abbrev pub AwaitsNone : Type 0
  AwaitsNone = awaited (waits (next_command r.hub c)) s (s.client c).opened ≡ []

  awaits_none_in : (read : TextReading) (m : Machine) → Follows m r → AwaitsNone → awaited_by read script c m ≡ []
  awaits_none_in read m f none =
      subst (λ (t : State). awaited (waits (command_at script c (t.client c).next)) t (t.client c).opened ≡ []) (same_state m r f) none

  pub acts_now : (new : RunningMachine) → AwaitsNone → GoesReading (λ read. go_on read script c) r new → GoesReading (λ read. act read script c) r new
  acts_now new none goes =
      goes_as (λ read. go_on read script c) (λ read. act read script c) r new
      (λ read are m f. sym (ap (λ is. go_on read script c (caught_up n is m)) (awaits_none_in read m f none))) goes

  pub may_now : (read : TextReading) (are : AreRead read) (m : Machine) (e : Event) → Follows m r → AwaitsNone → next_event read script (now_in n m) c ≡ Some e
      → MayFollow read script (now_in n m) e
  may_now read are m e f none is =
      next_may known.below script f.sound read are m m c e f.runs (
        f.runs,
        quiet_self known.below script (now_in n m),
        λ j has. absurd (true≢false (sym has ∙ ap (λ is. list_any (λ i. j == i) is) (awaits_none_in read m f none))),
      ) is

  -- the client's next event came
  acted_next : (hub : Past) (e : Event) → Acted c r.hub hub (λ x. x ≡ e) → (read : TextReading) → AreRead read → (m : Machine) → Follows m r
      → next_event read script (now_in n m) c ≡ Some e
  acted_next hub e acts read are m f =
      subst (λ (t : State). next_event read script t c ≡ Some e) (same_state m r f) (acts.next read are ∙ ap Some acts.such)

  acted_adds : (hub : Past) (e : Event) → Acted c r.hub hub (λ x. x ≡ e) → Adds e r.hub hub
  acted_adds hub e acts = subst (λ x. Adds x r.hub hub) acts.such acts.adds

  goes_on_by : (read : TextReading) (m : Machine) (e : Event) → next_event read script (now_in n m) c ≡ Some e → going_online e ≡ [] → go_on read script c m ≡ with_event e m
  goes_on_by read m e next none = ap (λ o. option_map_or (happened m) o m) next ∙ ap (λ is. fold merge (with_event e m) is) none

  runs_on : (read : TextReading) (are : AreRead read) (m : Machine) (e : Event) → Follows m r → next_event read script (now_in n m) c ≡ Some e → going_online e ≡ []
      → MayFollow read script (now_in n m) e → IsRunning script (with_event e m)
  runs_on read are m e f next none may =
      subst (λ is. IsRunning script (fold merge (with_event e m) is)) none
      (happened_keeps known.below script f.sound read are m c e f.runs (next_is_own read script (now_in n m) c e next) may)

  -- it closes the command without an answer
  pub closed_goes_on : (hub : Past) (e : Event) → IsQuietEvent e → IsSilent e → going_online e ≡ [] → Acted c r.hub hub (λ x. x ≡ e)
      → ((read : TextReading) → AreRead read → (m : Machine) → Follows m r → MayFollow read script (now_in n m) e)
      → GoesReading (λ read. go_on read script c) r (record r { hub = hub })
  closed_goes_on hub e quiet silent none acts may = record {
    script = acts.adds.script;
    follows = λ read are m f.
        let next = acted_next hub e acts read are m f in
        let runs = runs_on read are m e f next none (may read are m f) in
        let legal : IsLegal script (r.hub.events ++ e ∷ []) = subst (λ es. IsLegal script (es ++ e ∷ [])) (sym f.events) runs.legal in
        subst (λ t. Follows t (record r { hub = hub })) (sym (goes_on_by read m e next none))
        (event_followed m e r hub r.answers known.below.one_more quiet f (acted_adds hub e acts) runs
        (f.answers ∙ sym (answers_same script known.answers_stay r.hub.events e legal silent)));
  }

  -- ---- a request

  module _ (i : ℕ) (demand since : List ℕ) (opened : (s.client c).opened ≡ started i demand since) where
    abbrev k : ℕ
    k = (s.client c).next

    abbrev board : List ℕ
    board = s.published i

    by_opened : awaited (waits (next_command r.hub c)) s (started i demand since) ≡ [] → AwaitsNone
    by_opened none = ap (awaited (waits (next_command r.hub c)) s) opened ∙ none

    pub covered_now : IsCovered demand board → AwaitsNone
    covered_now covered = by_opened (covered_awaits_none (waits (next_command r.hub c)) s i demand since ((known.below.tells board demand).1 covered))

    pub dropped_now : numbered i s.live ≡ None → AwaitsNone
    dropped_now dropped = by_opened (dropped_awaits_none (waits (next_command r.hub c)) s i demand since dropped)

    pub impatient_now : waits (next_command r.hub c) ≡ false → AwaitsNone
    impatient_now never = by_opened (impatient_awaits_none (waits (next_command r.hub c)) s i demand since never)

    -- it is answered
    pub untold : (hub : Past) → IsCovered demand board → Acted c r.hub hub (λ x. x ≡ answer c k board) → (read : TextReading) → AreRead read → (m : Machine) → Follows m r
        → IsUntold c k board m (record r { hub = hub })
    untold hub covered acts read are m f =
        let e : Event = answer c k board in
        let adds = acted_adds hub e acts in
        let next = acted_next hub e acts read are m f in
        same_past (λ p. IsUntold c k board m (record r { hub = p })) script (r.hub.events ++ e ∷ []) hub adds.script adds.events
        (record {
          sound = f.sound;
          script = f.script;
          runs_on = runs_on read are m e f next refl (may_now read are m e f (covered_now covered) next);
          events = ap (λ es. es ++ e ∷ []) f.events;
          keeps = record { maint = f.keeps.maint; initial = f.keeps.initial; slots = f.keeps.slots; places = f.keeps.places };
          answers = f.answers ∙ ap (answers_of script) f.events;
        })

    pub answered_goes_on : (hub : Past) → Acted c r.hub hub (λ x. x ≡ answer c k board) → (read : TextReading) → AreRead read → (m : Machine) → Follows m r
        → go_on read script c m ≡ with_event (answer c k board) m
    answered_goes_on hub acts read are m f = goes_on_by read m (answer c k board) (acted_next hub (answer c k board) acts read are m f) refl

    pub snapshot_for : (x : Snapshot) (m : Machine) → Follows m r → IsNewestOf r.hub i (Some x) → IsSnapshotFor n c board m x
    snapshot_for x m f newest =
        let there = newest_there n s (numbered i s.live) x newest in
        let index = there.0 in
        let is = there.2 in
        let same = same_state m r f in
        let holds = known.below.consistent script r.hub.events (subst (IsLegal script) (sym f.events) f.runs.legal) in
        let def : definition_in s.defs (s.client c).opened ≡ Some (arc_value x.def) =
        ap (definition_in s.defs) opened ∙ each_found n s holds i index there.1 ∙ ap Some (sym is.def) in
        record {
          def = subst (λ (t : State). started_definition t c ≡ Some (arc_value x.def)) same def;
          vector = is.vector ∙ ap s.published (found_is i s.live index there.1);
          stands = subst (λ (t : State). SnapshotStands n t.log x) same is.stands;
        }

    pub is_scan : (m : Machine) → Follows m r → IsScanAt script c k
    is_scan m f =
        subst IsRequest (sym (known.asked script r.hub.events c i demand since (subst (IsLegal script) (sym f.events) f.runs.legal) opened).command) tt

    -- it isn't answered yet
    pub short_may : (waiting : Bool) (at : List ℕ) → waiting ≡ false → IsShort s at (s.client c).opened → MayNotYet s waiting at (s.client c).opened
    short_may waiting at never =
        subst (λ o. IsShort s at o → MayNotYet s waiting at o) (sym opened)
        (λ short. live_if i s (λ index. (at ≡ board) × (¬ IsCovered demand at) × ((waiting ≡ false) ⊎ (¬ IsCovered demand since))) short.0.0 short.0.1 (short.1, short.2, inl never))

    pub is_short_of : (at : List ℕ) (index : Live) → numbered i s.live ≡ Some index → at ≡ board → ¬ IsCovered demand board → IsShort s at (s.client c).opened
    is_short_of at index found is short =
        subst (IsShort s at) (sym opened) ((index, found), is, subst (λ v. ¬ IsCovered demand v) (sym is) short)

    -- its index is caught up before
    module _ (m : Machine) (f : Follows m r) (index : Live) (found : numbered i s.live ≡ Some index) where
      abbrev t : State
      t = now_in n m

      same : s ≡ t
      same = same_state m r f

      found_in : numbered i t.live ≡ Some index
      found_in = subst (λ (u : State). numbered i u.live ≡ Some index) same found

      opened_in : (t.client c).opened ≡ started i demand since
      opened_in = subst (λ (u : State). (u.client c).opened ≡ started i demand since) same opened

      works_in : IsWorking t.live i
      works_in = (index, found_in, (subst (λ o. AllByRecursion (IsBuilt t.live) (indexes_of o)) opened_in (f.runs.built c)).0 index found_in)

      pub works : IsWorking s.live i
      works = subst (λ (u : State). IsWorking u.live i) (sym same) works_in

      pub acts_caught_up : (read : TextReading) → waits (next_command r.hub c) ≡ true → ¬ IsCovered demand board
          → act read script c m ≡ go_on read script c (catch_up n m i)
      acts_caught_up read waited short =
          let uncovered : covers board demand ≡ false = false_from_ne_true (covers board demand) (λ holds_so. short ((known.below.tells board demand).0 holds_so)) in
          let holds = known.below.consistent script m.events f.runs.legal in
          let numbers : AreNumbered 0 (length t.defs) s.live = subst (λ (u : State). AreNumbered 0 (length t.defs) u.live) (sym same) holds.live in
          let one : awaited (waits (next_command r.hub c)) s (s.client c).opened ≡ i ∷ [] =
          ap (awaited (waits (next_command r.hub c)) s) opened
          ∙ short_awaits_it (waits (next_command r.hub c)) s i demand since (length t.defs) index numbers found uncovered waited in
          ap (λ is. go_on read script c (caught_up n is m))
          (subst (λ (u : State). awaited (waits (command_at script c (u.client c).next)) u (u.client c).opened ≡ i ∷ []) same one)

      module _ (new : RunningMachine) (goes : Goes (λ m. catch_up n m i) r new) where
        abbrev caught : Machine
        caught = catch_up n m i

        abbrev u : State
        u = now_in n caught

        -- the hub's state is then that of the machine
        same_then : state_of new.hub ≡ u
        same_then = same_state caught new (goes.follows m f) ∙ ap (λ (x : Script). now_in x.vbuckets caught) goes.script

        quiet : IsQuiet t u
        quiet = (caught_one known.below script known.some_read.0 known.some_read.1 m i f.runs works_in).1

        opened_then : (u.client c).opened ≡ started i demand since
        opened_then = ap (λ (of : ℕ → Part). (of c).opened) quiet.client ∙ opened_in

        pub still_open : IsStarted (part_in new.hub c).opened (λ j. ⊤)
        still_open = subst (λ (v : State). IsStarted (v.client c).opened (λ j. ⊤)) (sym same_then) (started_is (u.client c).opened (λ j. ⊤) i demand since opened_then tt)

        -- a demand that the newest numbers don't cover wasn't reached when the request began
        beyond : (at : List ℕ) → at ≡ u.published i → ¬ IsCovered demand at → ¬ IsCovered demand since
        beyond at is short was =
            let holds = known.below.consistent script m.events f.runs.legal in
            let reached = (subst (IsOpenSince (high_of n t.log) (length t.defs)) opened_in (holds.client c).opened).1 in
            let size : length demand ≡ length since =
            known.below.demand_size script m.events c i demand since f.sound f.runs.legal opened_in ∙ sym (known.below.high_size n t.log) ∙ sym reached.size in
            let published : at ≡ high_in n m = is ∙ (caught_one known.below script known.some_read.0 known.some_read.1 m i f.runs works_in).2 in
            short (subst (IsCovered demand) (sym published) (known.below.transitive demand since (high_in n m) size was reached.below))

        pub may_then : (at : List ℕ) → IsShortOf c at new → MayNotYet (state_of new.hub) (waits (next_command new.hub c)) at (part_in new.hub c).opened
        may_then at =
            let waiting = waits (next_command new.hub c) in
            subst (λ (v : State). IsShort v at (v.client c).opened → MayNotYet v waiting at (v.client c).opened) (sym same_then)
            (subst (λ o. IsShort u at o → MayNotYet u waiting at o) (sym opened_then)
            (λ short. live_if i u (λ index. (at ≡ u.published i) × (¬ IsCovered demand at) × ((waiting ≡ false) ⊎ (¬ IsCovered demand since))) short.0.0 short.0.1
            (short.1, short.2, inr (beyond at short.1 short.2))))
