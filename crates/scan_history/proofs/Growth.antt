-- The answers of a legal history stay as they are when it grows.
use Rattle.std.proofs.Common.{◌≡◌, ℕ, List, [], ◌∷◌, ◌++◌, Some, refl, sym, ap, ap₂, ◌∙◌, subst, append_assoc}
use mathlib.Core.List.{IsPrefix}
use Rattle.seq_vector.specs.Vectors.{IsCovered}
use Rattle.vb_store.specs.declared.mutation.Mutation.{Mutation}
use Rattle.vb_store.specs.Mutations.{IsNumbered, high_of}
use Rattle.vb_store.specs.Documents.{documents_at}
use Rattle.index_def.specs.LiveIndexes.{numbered}
use Rattle.scan_history.specs.declared.done.Answered.{Answered}
use Rattle.scan_history.specs.declared.script.Script.{Script}
use Rattle.scan_history.specs.Events.{Event, answer}
use Rattle.scan_history.specs.Fold.{State, step, state_from}
use Rattle.scan_history.specs.First.{command_at}
use Rattle.scan_history.specs.Readings.{Read}
use Rattle.scan_history.specs.Legal.{MayFollow, IsLegalFrom}
use Rattle.scan_history.specs.Consistent.{IsConsistent, IsReached}
use Rattle.scan_history.specs.RowTexts.{rows_text}
use Rattle.scan_history.specs.Answers.{spans_of, scan_under, started_definition, answer_at, answers_from}
use Rattle.scan_history.specs.inner.Known.{Known}
use Rattle.scan_history.proofs.Lists.{prefix_trans}
use Rattle.scan_history.proofs.Reached.{reached_later}
use Rattle.scan_history.proofs.Steps.{log_grows}
use Rattle.scan_history.proofs.Consistency.{answers, consistent_next}

pub answers_from-append : (script : Script) (log : List Mutation) (s : State) (events more : List Event)
    → answers_from script log s (events ++ more) ≡ answers_from script log s events ++ answers_from script log (state_from script.vbuckets s events) more
answers_from-append script log s [] more = refl
answers_from-append script log s (e ∷ es) more =
    ap (λ rest. answer_at script log s e ++ rest) (answers_from-append script log (step script.vbuckets s e) es more)
    ∙ sym (append_assoc (answer_at script log s e) (answers_from script log (step script.vbuckets s e) es) (answers_from script log (state_from script.vbuckets (step script.vbuckets s e) es) more))

module _ (known : Known) (growth : (n : ℕ) (log more : List Mutation) (v : List ℕ) → IsNumbered n (log ++ more) → IsCovered v (high_of n log) → documents_at (log ++ more) v ≡ documents_at log v) (read : List ℕ → Read) (script : Script) where
  -- an answer over the mutations of a history, and over more
  answer_stays : (s : State) (e : Event) (log more : List Mutation) → IsConsistent script.vbuckets s → MayFollow read script s e → IsPrefix s.log log
      → IsNumbered script.vbuckets (log ++ more) → answer_at script (log ++ more) s e ≡ answer_at script log s e
  answer_stays s (answer c k at) log more holds may begins numbered =
      let reached : IsReached (high_of script.vbuckets s.log) at = answers known read script s holds at (s.client c).opened may.0.1 in
      let then : IsReached (high_of script.vbuckets log) at =
      subst (λ l. IsReached (high_of script.vbuckets l) at) begins.1 (reached_later known script.vbuckets s.log begins.0 at reached) in
      let of_text : List ℕ → List Answered = λ text. record { c = c; k = k; text = Some text } ∷ [] in
      ap (λ docs. of_text (rows_text (scan_under (started_definition s c) (spans_of (command_at script c k)) docs)))
      (growth script.vbuckets log more at numbered then.below)
  answer_stays s _ log more holds may begins numbered = refl

  pub answers_stay : (s : State) (events : List Event) (log more : List Mutation) → IsConsistent script.vbuckets s → IsLegalFrom read script s events
      → IsPrefix (state_from script.vbuckets s events).log log → IsNumbered script.vbuckets (log ++ more)
      → answers_from script (log ++ more) s events ≡ answers_from script log s events
  answers_stay s [] log more holds legal begins numbered = refl
  answers_stay s (e ∷ es) log more holds legal begins numbered =
      ap₂ (λ one rest. one ++ rest)
      (answer_stays s e log more holds legal.0 (prefix_trans s.log (state_from script.vbuckets s (e ∷ es)).log log (log_grows script.vbuckets s (e ∷ es)) begins) numbered)
      (answers_stay (step script.vbuckets s e) es log more (consistent_next known read script s holds e legal.0) legal.1 begins numbered)
