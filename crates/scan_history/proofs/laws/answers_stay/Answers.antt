use Rattle.std.proofs.Common.{◌≡◌, ℕ, List, ◌++◌, sym, ap, ◌∙◌, subst}
use mathlib.Core.List.{IsPrefix}
use Rattle.seq_vector.specs.Vectors.{IsCovered}
use Rattle.vb_store.specs.declared.mutation.Mutation.{Mutation}
use Rattle.vb_store.specs.Mutations.{IsNumbered, high_of}
use Rattle.vb_store.specs.Documents.{documents_at}
use Rattle.scan_history.specs.declared.script.Script.{Script}
use Rattle.scan_history.specs.Events.{Event}
use Rattle.scan_history.specs.Fold.{State, first_state, state_from, state_after}
use Rattle.scan_history.specs.Readings.{Read}
use Rattle.scan_history.specs.Legal.{IsLegalFrom}
use Rattle.scan_history.specs.Consistent.{IsConsistent}
use Rattle.scan_history.specs.Answers.{answers_from, answers_of}
use Rattle.scan_history.specs.inner.Known.{Known}
use Rattle.scan_history.proofs.Lists.{prefix_self}
use Rattle.scan_history.proofs.Steps.{state_from-append, legal_parts, log_grows}
use Rattle.scan_history.proofs.Consistency.{consistent_first, consistent_from}
use Rattle.scan_history.proofs.Growth as growth
use Rattle.scan_history.proofs.laws.answers_stay.Goals as goal

module _ (known : Known) (grows : (n : ℕ) (log more : List Mutation) (v : List ℕ) → IsNumbered n (log ++ more) → IsCovered v (high_of n log) → documents_at (log ++ more) v ≡ documents_at log v) (read : List ℕ → Read) (script : Script) (events more : List Event) where
  abbrev first : State
  first = first_state script.vbuckets

  abbrev s : State
  s = state_from script.vbuckets first events

  abbrev then : State
  then = state_from script.vbuckets first (events ++ more)

  stay : IsLegalFrom read script first (events ++ more) → IsPrefix (answers_from script s.log first events) (answers_from script then.log first (events ++ more))
  stay legal =
      let holds : IsConsistent script.vbuckets first = consistent_first known script.vbuckets in
      let longer : IsPrefix s.log then.log =
      subst (λ (t : State). IsPrefix s.log t.log) (sym (state_from-append script.vbuckets first events more)) (log_grows script.vbuckets s more) in
      let all : IsConsistent script.vbuckets then = consistent_from known read script first (events ++ more) holds legal in
      let same : answers_from script then.log first events ≡ answers_from script s.log first events =
      subst (λ log. answers_from script log first events ≡ answers_from script s.log first events) longer.1
      (growth.answers_stay known grows read script first events s.log longer.0 holds (legal_parts read script first events more legal).0 (prefix_self s.log)
      (subst (IsNumbered script.vbuckets) (sym longer.1) all.log)) in
      (answers_from script then.log s more, ap (λ one. one ++ answers_from script then.log s more) (sym same) ∙ sym (growth.answers_from-append script then.log first events more))

pub returns : goal.returns
unfolding state_after answers_of
returns c script events more legal =
    let some = c.texts_are_read_in_one_way.ensures.some in
    stay c.below.ensures c.growth.ensures.documents some.0 script events more (legal some.0 some.1)
