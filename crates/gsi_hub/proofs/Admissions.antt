-- A creation and a build that the catalog has nothing against are the client's first action.
use Rattle.std.proofs.Common.{◌≡◌, ℕ, ◌≤◌, Bool, List, length, Option, Some, None, sym, ap, ◌∙◌, subst}
use Rattle.std.specs.Prelude.{cond, nat_le}
use Rattle.std.specs.List.{list_all}
use Rattle.n1ql_value.specs.Limits.{max_indexes}
use Rattle.vb_store.specs.Accepted.{Accepted}
use Rattle.index_def.specs.declared.definition.IndexDef.{IndexDef}
use Rattle.index_def.specs.LiveIndexes.{Live, is_live, is_live_deferred, first_of_each, numbers_of}
use Rattle.index_ddl.specs.Catalogs.{Indexes, creation_fault, build_fault}
use Rattle.index_ddl.specs.declared.fault.DdlFault.{DdlFault}
use Rattle.index_ddl.specs.declared.fault.DdlFault.TheVariants.{Exists, TooMany}
use Rattle.index_snapshot.specs.declared.snapshot.Snapshot.{Snapshot}
use Rattle.scan_history.specs.declared.why.Why.TheVariants.{Plain}
use Rattle.scan_history.specs.Events.{Event, define, build, refuse}
use Rattle.scan_history.specs.First.{first_of_build}
use Rattle.scan_history.specs.Fold.{Client, State, state_after}
use Rattle.scan_history.specs.Refusals as code
use Rattle.gsi_hub.specs.Past.{Past, MayCome}
use Rattle.gsi_hub.specs.inner.Definitions.{creation_of}
use Rattle.gsi_hub.specs.inner.Kept.{IsHub}
use Rattle.gsi_hub.specs.inner.Known.{Known}
use Rattle.gsi_hub.specs.inner.Steps.{IsFirstEvent}
use Rattle.gsi_hub.proofs.Statements.{build_done, creation_done, full}
use Rattle.gsi_hub.proofs.Steps.{first_comes}

module _ (known : Known) (old : Past) (store : Accepted) (indexes : Indexes) (newest : List (Option Snapshot)) (parts : List Client)
    (kept : IsHub old.script store indexes newest parts old.events) (c k : ℕ) where
  abbrev s : State
  s = state_after old.script.vbuckets old.events

  pub creation_comes : (j : ℕ) (def : IndexDef) (deferred : Bool) → j ≡ indexes.made → creation_fault def.name indexes ≡ None
      → IsFirstEvent old c (creation_of s c k def deferred) → (j ≡ length s.defs) × MayCome old (define c k j deferred def)
  creation_comes j def deferred made none first =
      let number : j ≡ length s.defs = made ∙ kept.state.made in
      let few : indexes.made ≤ max_indexes = subst (λ (n : ℕ). n ≤ max_indexes) (sym kept.state.made) (known.consistent old.script old.events kept.legal).made in
      let fault : List Live → ℕ → Option DdlFault = λ live n. cond (is_live live def.name) (Some Exists) (cond (nat_le max_indexes n) (Some TooMany) None) in
      let tested : fault indexes.live indexes.made ≡ None =
      sym (ap (λ b. cond (is_live indexes.live def.name) (Some Exists) (cond b (Some TooMany) None)) (full indexes.made few)) ∙ none in
      let free : fault s.live (length s.defs) ≡ None =
      subst (λ (n : ℕ). fault s.live n ≡ None) kept.state.made (subst (λ (l : List Live). fault l indexes.made ≡ None) kept.state.live tested) in
      let event : IsFirstEvent old c (define c k (length s.defs) deferred def) =
      subst (IsFirstEvent old c) (creation_done (is_live s.live def.name) (nat_le max_indexes (length s.defs)) (refuse c k code.exists Plain) (refuse c k code.too_many_indexes Plain)
      (define c k (length s.defs) deferred def) free) first in
      let e : Event = define c k j deferred def in
      (number, first_comes known old c e (subst (λ (n : ℕ). IsFirstEvent old c (define c k n deferred def)) (sym number) event))

  pub build_comes : (names : List (List ℕ)) (numbers : List ℕ) → build_fault names indexes.live ≡ None → numbers ≡ first_of_each (numbers_of names indexes.live)
      → IsFirstEvent old c (first_of_build s c k names) → MayCome old (build c k numbers)
  build_comes names numbers none which first =
      let free : build_fault names s.live ≡ None = subst (λ (l : List Live). build_fault names l ≡ None) kept.state.live none in
      let listed : numbers ≡ first_of_each (numbers_of names s.live) = which ∙ ap (λ (l : List Live). first_of_each (numbers_of names l)) kept.state.live in
      let event : IsFirstEvent old c (build c k (first_of_each (numbers_of names s.live))) =
      subst (IsFirstEvent old c) (build_done (list_all (is_live s.live) names) (list_all (is_live_deferred s.live) names) (refuse c k code.unknown_index Plain) (refuse c k code.not_deferred Plain)
      (build c k (first_of_each (numbers_of names s.live))) free) first in
      first_comes known old c (build c k numbers) (subst (λ (ns : List ℕ). IsFirstEvent old c (build c k ns)) (sym listed) event)
