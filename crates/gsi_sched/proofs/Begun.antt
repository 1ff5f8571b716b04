-- Which indexes an event that may follow is about.
use Rattle.std.proofs.Common.{◌≡◌, ℕ, Bool, true, false, not, ◌==◌, List, [], ◌∷◌, Some, refl, sym, ap, ◌∙◌}
use Rattle.std.specs.Prelude.{⊤}
use Rattle.std.specs.List.{AllByRecursion, filter, list_all}
use Rattle.std.specs.Option.{option_map_or}
use Rattle.std.proofs.lemmas.Bool.{cond_both, and_parts, true≢false}
use Rattle.n1ql_value.specs.declared.state.State.{State as Stage}
use Rattle.n1ql_value.specs.declared.state.State.TheVariants.{Deferred, Building, Online}
use Rattle.index_def.specs.LiveIndexes.{Live, AreNumbered, is_named, named, numbered, is_deferred, is_live_deferred, first_of_each, numbers_of}
use Rattle.scan_history.specs.declared.script.Script.{Script}
use Rattle.scan_history.specs.Events.{Event, build, removed}
use Rattle.scan_history.specs.First.{command_at, first_of, first_action}
use Rattle.scan_history.specs.Fold.{State}
use Rattle.scan_history.specs.Readings.{Read}
use Rattle.gsi_sched.proofs.LiveIndexes.{found_numbered}
use Rattle.gsi_sched.proofs.FirstEvents.{by_option, by_made, by_command}

-- a live index of this number is deferred
pub record IsDeferredAt (live : List Live) (i : ℕ) : Type 0 where
  pub index : Live
  pub found : numbered i live ≡ Some index
  pub state : index.state ≡ Deferred

-- an index of this number is live
pub record IsLiveAt (live : List Live) (i : ℕ) : Type 0 where
  pub index : Live
  pub found : numbered i live ≡ Some index

pub deferred_by : (state : Stage) → is_deferred state ≡ true → state ≡ Deferred
deferred_by Deferred is = refl
deferred_by Building is = absurd (true≢false (sym is))
deferred_by Online is = absurd (true≢false (sym is))

pub each_filtered : {A : Type 0} (P : A → Type 0) (test : A → Bool) (xs : List A) → AllByRecursion P xs → AllByRecursion P (filter test xs)
each_filtered P test [] all = tt
each_filtered P test (x ∷ xs) all =
    cond_both (test x) (x ∷ filter test xs) (filter test xs) (AllByRecursion P) (λ passes. (all.0, each_filtered P test xs all.1)) (λ fails. each_filtered P test xs all.1)

each_once : (P : ℕ → Type 0) (ns : List ℕ) → AllByRecursion P ns → AllByRecursion P (first_of_each ns)
each_once P [] all = tt
each_once P (n ∷ ns) all = (all.0, each_filtered P (λ m. not (m == n)) (first_of_each ns) (each_once P ns all.1))

module _ (made : ℕ) (live : List Live) (numbers : AreNumbered 0 made live) where
  deferred_numbers : (names : List (List ℕ)) → list_all (is_live_deferred live) names ≡ true → AllByRecursion (IsDeferredAt live) (numbers_of names live)
  deferred_numbers [] all = tt
  deferred_numbers (name ∷ names) all =
      let parts = and_parts (is_live_deferred live name) (list_all (is_live_deferred live) names) all in
      let rest = deferred_numbers names parts.1 in
      by_option (AllByRecursion (IsDeferredAt live)) (λ (index : Live). index.number ∷ numbers_of names live) (numbers_of names live) (named name live)
      (λ index found. (
        record {
          index = index;
          found = (found_numbered (is_named name) 0 made live index numbers found).1;
          state = deferred_by index.state (sym (ap (λ o. option_map_or (λ (x : Live). is_deferred x.state) o false) found) ∙ parts.0);
        },
        rest,
      ))
      (λ none. rest)

  -- the indexes whose building an event begins are deferred, and one that it drops is live
  abbrev pub IsAbout : Event → Type 0
  IsAbout (build c k indexes) = AllByRecursion (IsDeferredAt live) indexes
  IsAbout (removed c k i) = IsLiveAt live i
  IsAbout _ = ⊤

pub first_is_about : (read : List ℕ → Read) (script : Script) (s : State) (c made : ℕ) (e : Event) → (numbers : AreNumbered 0 made s.live)
    → first_action read script s c ≡ Some e → IsAbout made s.live numbers e
first_is_about read script s c made e numbers is =
    by_made (IsAbout made s.live numbers) (first_of read script s c (s.client c).next) (command_at script c (s.client c).next) e
    (λ asked there.
    by_command read script s c (s.client c).next (IsAbout made s.live numbers)
    (λ what. tt) (λ i deferred def. tt)
    (λ names deferred. each_once (IsDeferredAt s.live) (numbers_of names s.live) (deferred_numbers made s.live numbers names deferred))
    (λ name index found. record { index = index; found = (found_numbered (is_named name) 0 made s.live index numbers found).1 })
    (λ name index demand found online. tt) (λ number why. tt) asked)
    is
