-- Lines of the schedule that name an index, by the number of that index.
use Rattle.std.proofs.Common.{◌≡◌, ◌≢◌, ℕ, Bool, true, false, cond, List, length, Option, Some, None, refl, sym, ap, ◌∙◌, subst}
use Rattle.std.specs.Option.{option_map_or}
use Rattle.std.proofs.lemmas.Bool.{true≢false}
use Rattle.std.proofs.lemmas.Option.{same_Some}
use Rattle.n1ql_value.specs.declared.state.State.{State as Stage}
use Rattle.n1ql_value.specs.declared.state.State.TheVariants.{Deferred, Building, Online}
use Rattle.index_def.specs.LiveIndexes.{Live, AreNumbered, is_named, named, numbered}
use Rattle.scan_history.specs.Fold.{State}
use Rattle.gsi_hub.specs.Past.{state_of}
use Rattle.gsi_sched.specs.Machine.{Machine, now_in}
use Rattle.gsi_sched.specs.ScheduleLines.{is_building, has_worker, on_index}
use Rattle.gsi_sched.specs.declared.machine.RunningMachine.{RunningMachine}
use Rattle.gsi_sched.specs.inner.Below.{Below}
use Rattle.gsi_sched.specs.inner.SlotLists.{number_in}
use Rattle.gsi_sched.specs.inner.Following.{Follows, IsFollowing, Goes, IsBuildingIn, IsWorkingIn}
use Rattle.gsi_sched.proofs.LiveIndexes.{found_numbered}
use Rattle.gsi_sched.proofs.Followed.{same_state}

-- ---- a line by the number

by_number : (needed : Stage → Bool) (does : ℕ → Machine → Machine) (m : Machine) (o : Option Live)
    → option_map_or (λ (index : Live). cond (needed index.state) (does index.number m) m) o m
    ≡ option_map_or (λ i. does i m) (option_map_or (λ (index : Live). cond (needed index.state) (Some index.number) None) o None) m
by_number needed does m None = refl
by_number needed does m (Some index) =
    let by : (b : Bool) → cond b (does index.number m) m ≡ option_map_or (λ i. does i m) (cond b (Some index.number) None) m =
    λ b. elim b as (λ b. cond b (does index.number m) m ≡ option_map_or (λ i. does i m) (cond b (Some index.number) None) m) [ true ↦ refl | false ↦ refl ] in
    by (needed index.state)

-- the number is that of a live index in a needed state
pub number_found : (needed : Stage → Bool) (name : List ℕ) (made : ℕ) (live : List Live) (i : ℕ) → AreNumbered 0 made live → number_in needed name live ≡ Some i
    → (index : Live) × (numbered i live ≡ Some index) × (needed index.state ≡ true)
number_found needed name made live i numbers is = by (named name live) refl
  where
    by_state : (index : Live) (b : Bool) → named name live ≡ Some index → needed index.state ≡ b → cond b (Some index.number) None ≡ Some i
        → (index : Live) × (numbered i live ≡ Some index) × (needed index.state ≡ true)
    by_state index true found holds_so there =
        let it : index.number ≡ i = same_Some index.number i there in
        (index, subst (λ j. numbered j live ≡ Some index) it (found_numbered (is_named name) 0 made live index numbers found).1, holds_so)
    by_state index false found fails there = absurd cc

    by : (o : Option Live) → named name live ≡ o → (index : Live) × (numbered i live ≡ Some index) × (needed index.state ≡ true)
    by None none = let gone : None ≡ Some i = sym (ap (λ o. option_map_or (λ (index : Live). cond (needed index.state) (Some index.number) None) o None) none) ∙ is in absurd cc
    by (Some index) found =
        by_state index (needed index.state) found refl (sym (ap (λ o. option_map_or (λ (index : Live). cond (needed index.state) (Some index.number) None) o None) found) ∙ is)

building_is : (stage : Stage) → is_building stage ≡ true → stage ≡ Building
building_is Deferred is = absurd (true≢false (sym is))
building_is Building is = refl
building_is Online is = absurd (true≢false (sym is))

working_is : (stage : Stage) → has_worker stage ≡ true → stage ≢ Deferred
working_is stage is e = true≢false (sym is ∙ ap has_worker e)

module _ (below : Below) (r : RunningMachine) (following : IsFollowing r) (name : List ℕ) (i : ℕ) where
  abbrev live : List Live
  live = (state_of r.hub).live

  abbrev made : ℕ
  made = length (state_of r.hub).defs

  numbers : AreNumbered 0 made live
  numbers =
      subst (λ (s : State). AreNumbered 0 (length s.defs) s.live) (sym (same_state following.0 r following.1))
      (below.consistent r.hub.script following.0.events following.1.runs.legal).live

  pub building_in : number_in is_building name live ≡ Some i → IsBuildingIn r i
  building_in is = let there = number_found is_building name made live i numbers is in (there.0, there.1, building_is there.0.state there.2)

  pub working_in : number_in has_worker name live ≡ Some i → IsWorkingIn r i
  working_in is = let there = number_found has_worker name made live i numbers is in (there.0, there.1, working_is there.0.state there.2)

-- ---- what a line does

module _ (r : RunningMachine) (name : List ℕ) (needed : Stage → Bool) (does : ℕ → Machine → Machine) where
  abbrev n : ℕ
  n = r.hub.script.vbuckets

  line_is : (m : Machine) (o : Option ℕ) → Follows m r → number_in needed name (state_of r.hub).live ≡ o → on_index n name needed does m ≡ option_map_or (λ i. does i m) o m
  line_is m o f is =
      by_number needed does m (named name (now_in n m).live)
      ∙ ap (λ found. option_map_or (λ i. does i m) found m) (ap (λ (s : State). number_in needed name s.live) (sym (same_state m r f)) ∙ is)

  pub line_goes : (new : RunningMachine) (i : ℕ) → number_in needed name (state_of r.hub).live ≡ Some i → Goes (does i) r new → Goes (on_index n name needed does) r new
  line_goes new i is goes = record {
    script = goes.script;
    follows = λ m f. subst (λ t. Follows t new) (sym (line_is m (Some i) f is)) (goes.follows m f);
  }

  pub line_stays : number_in needed name (state_of r.hub).live ≡ None → Goes (on_index n name needed does) r r
  line_stays is = record {
    script = refl;
    follows = λ m f. subst (λ t. Follows t r) (sym (line_is m None f is)) f;
  }
