use Rattle.std.proofs.Common.{◌≡◌, ◌≢◌, ℕ, ◌<◌, List, ◌++◌, length, Option, Some, None, MatchOption, refl, sym, subst}
use Rattle.std.specs.Prelude.{⊤}
use Rattle.seq_vector.specs.Vectors.{IsCovered}
use Rattle.n1ql_value.specs.declared.state.State.TheVariants.{Deferred}
use Rattle.index_def.specs.LiveIndexes.{Live, numbered}
use Rattle.scan_history.specs.declared.script.Script.{Script}
use Rattle.scan_history.specs.Events.{Event}
use Rattle.scan_history.specs.Fold.{State, first_state, state_from, state_after}
use Rattle.scan_history.specs.Readings.{Read}
use Rattle.scan_history.specs.Legal.{IsLegalFrom}
use Rattle.scan_history.specs.Consistent.{IsConsistent}
use Rattle.scan_history.specs.inner.Known.{Known}
use Rattle.scan_history.proofs.LiveLists.{numbered_made}
use Rattle.scan_history.proofs.Steps.{state_from-append, legal_parts}
use Rattle.scan_history.proofs.Consistency.{consistent_first, consistent_from}
use Rattle.scan_history.proofs.Later.{still, forth}
use Rattle.scan_history.proofs.laws.an_index_goes_forth.Goals as goal

-- of a live index, that it isn't deferred
abbrev IsServed : Option Live → Type 0
IsServed found = MatchOption found ⊤ (λ index. index.state ≢ Deferred)

served_if : (found : Option Live) (index : Live) → found ≡ Some index → index.state ≢ Deferred → IsServed found
served_if found index is served = subst IsServed (sym is) served

served_then : (found : Option Live) (index : Live) → found ≡ Some index → IsServed found → index.state ≢ Deferred
served_then found index is served = subst IsServed is served

module _ (known : Known) (read : List ℕ → Read) (script : Script) (events more : List Event) (legal : IsLegalFrom read script (first_state script.vbuckets) (events ++ more)) where
  abbrev first : State
  first = first_state script.vbuckets

  abbrev s : State
  s = state_from script.vbuckets first events

  parts : IsLegalFrom read script first events × IsLegalFrom read script s more
  parts = legal_parts read script first events more legal

  holds : IsConsistent script.vbuckets s
  holds = consistent_from known read script first events (consistent_first known script.vbuckets) parts.0

  abbrev then : State
  then = state_from script.vbuckets first (events ++ more)

  goes_on : then ≡ state_from script.vbuckets s more
  goes_on = state_from-append script.vbuckets first events more

  served : (i : ℕ) (index later : Live) → numbered i s.live ≡ Some index → index.state ≢ Deferred → numbered i then.live ≡ Some later → later.state ≢ Deferred
  served i index later found is found_then =
      served_then (numbered i then.live) later found_then
      (subst (λ (t : State). IsServed (numbered i t.live)) (sym goes_on)
      (still known read script IsServed i tt (λ x h e. absurd cc) (λ x h e. absurd cc) s more holds parts.1
      (numbered_made i (length s.defs) s.live index holds.live found) (served_if (numbered i s.live) index found is)))

  dropped : (i : ℕ) → i < length s.defs → numbered i s.live ≡ None → numbered i then.live ≡ None
  dropped i made gone =
      subst (λ (t : State). numbered i t.live ≡ None) (sym goes_on)
      (still known read script (λ found. found ≡ None) i refl (λ x h. absurd cc) (λ x h. absurd cc) s more holds parts.1 made gone)

  published : (i : ℕ) → IsCovered (s.published i) (then.published i)
  published i = subst (λ (t : State). IsCovered (s.published i) (t.published i)) (sym goes_on) (forth known read script s more i holds parts.1)

pub returns-clause-served : goal.returns-clause-served
unfolding state_after
returns-clause-served c script events more i index later legal =
    let some = c.texts_are_read_in_one_way.ensures.some in
    served c.below.ensures some.0 script events more (legal some.0 some.1) i index later

pub returns-clause-dropped : goal.returns-clause-dropped
unfolding state_after
returns-clause-dropped c script events more i legal =
    let some = c.texts_are_read_in_one_way.ensures.some in
    dropped c.below.ensures some.0 script events more (legal some.0 some.1) i

pub returns-clause-published : goal.returns-clause-published
unfolding state_after
returns-clause-published c script events more i legal =
    let some = c.texts_are_read_in_one_way.ensures.some in
    published c.below.ensures some.0 script events more (legal some.0 some.1) i
