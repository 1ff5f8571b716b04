-- What one more event of a history answers.
use Rattle.std.proofs.Common.{◌≡◌, ℕ, List, [], ◌∷◌, ◌++◌, length, take, fold, refl, sym, ap, ◌∙◌, append_assoc, append-nil, length-append}
use Rattle.std.proofs.Math.Seq.{take-append_seam}
use Rattle.std.specs.Prelude.{⊤}
use mathlib.Core.List.{IsPrefix}
use Rattle.vb_store.specs.declared.mutation.Mutation.{Mutation}
use Rattle.scan_history.specs.declared.script.Script.{Script}
use Rattle.scan_history.specs.Events.{Event, answer}
use Rattle.scan_history.specs.Fold.{State, first_state, step, log_step, state_after}
use Rattle.scan_history.specs.Legal.{IsLegal}
use Rattle.scan_history.specs.Answers.{answer_at, answers_from, answers_of}

-- the law that answers stay as they are over a longer legal history
abbrev pub AnswersStay : Type 0
AnswersStay = (script : Script) (events more : List Event) → IsLegal script (events ++ more) → IsPrefix (answers_of script events) (answers_of script (events ++ more))

-- an event that answers nothing
abbrev pub IsSilent : Event → Type 0
IsSilent (answer c k at) = ⊥
IsSilent _ = ⊤

fold-push : {A B : Type 0} (f : B → A → B) (b : B) (xs : List A) (x : A) → fold f b (xs ++ x ∷ []) ≡ f (fold f b xs) x
fold-push f b [] x = refl
fold-push f b (y ∷ ys) x = fold-push f (f b y) ys x

pub state_after-push : (n : ℕ) (events : List Event) (e : Event) → state_after n (events ++ e ∷ []) ≡ step n (state_after n events) e
unfolding state_after
state_after-push n events e = fold-push (step n) (first_state n) events e

-- two lists that go on to the same list are the same where they are as long
same_front : {A : Type 0} (xs ys us vs : List A) → length xs ≡ length ys → xs ++ us ≡ ys ++ vs → xs ≡ ys
same_front xs ys us vs same is =
    sym (take-append_seam xs us) ∙ ap (take (length xs)) is ∙ ap (λ k. take k (ys ++ vs)) same ∙ take-append_seam ys vs

module _ (script : Script) where
  answers_from-push : (log : List Mutation) (s : State) (events : List Event) (e : Event)
      → answers_from script log s (events ++ e ∷ []) ≡ answers_from script log s events ++ answer_at script log (fold (step script.vbuckets) s events) e
  answers_from-push log s [] e = append-nil (answer_at script log s e)
  answers_from-push log s (x ∷ xs) e =
      ap (λ rest. answer_at script log s x ++ rest) (answers_from-push log (step script.vbuckets s x) xs e)
      ∙ sym (append_assoc (answer_at script log s x) _ _)

  -- an answer is one, whatever its text
  answer_at-length : (log later : List Mutation) (s : State) (e : Event) → length (answer_at script log s e) ≡ length (answer_at script later s e)
  answer_at-length log later s (answer c k at) = refl
  answer_at-length log later s _ = refl

  answers_from-length : (log later : List Mutation) (s : State) (events : List Event)
      → length (answers_from script log s events) ≡ length (answers_from script later s events)
  answers_from-length log later s [] = refl
  answers_from-length log later s (e ∷ es) =
      let one = answer_at-length log later s e in
      let rest = answers_from-length log later (step script.vbuckets s e) es in
      length-append (answer_at script log s e) (answers_from script log (step script.vbuckets s e) es) ∙ (cc)
      ∙ sym (length-append (answer_at script later s e) (answers_from script later (step script.vbuckets s e) es))

  -- an answer adds no mutation
  answer_at-step : (log : List Mutation) (s : State) (e : Event) → answer_at script (log_step log e) s e ≡ answer_at script log s e
  answer_at-step log s (answer c k at) = refl
  answer_at-step log s _ = refl

  answer_at-silent : (log : List Mutation) (s : State) (e : Event) → IsSilent e → answer_at script log s e ≡ []
  answer_at-silent log s (answer c k at) silent = absurd silent
  answer_at-silent log s _ silent = refl

  module _ (stay : AnswersStay) (events : List Event) (e : Event) (legal : IsLegal script (events ++ e ∷ [])) where
    abbrev s : State
    s = state_after script.vbuckets events

    -- one more event answers what it answers in the state before it
    pub answers_more : answers_of script (events ++ e ∷ []) ≡ answers_of script events ++ answer_at script s.log s e
    unfolding answers_of state_after
    answers_more =
        let first = first_state script.vbuckets in
        let later = (state_after script.vbuckets (events ++ e ∷ [])).log in
        let grown : later ≡ log_step s.log e = ap (λ (t : State). t.log) (state_after-push script.vbuckets events e) in
        let pushed = answers_from-push later first events e in
        let kept = stay script events (e ∷ []) legal in
        let front : answers_from script later first events ≡ answers_of script events =
        same_front (answers_from script later first events) (answers_of script events) (answer_at script later s e) kept.0
        (answers_from-length later s.log first events) (sym pushed ∙ sym kept.1) in
        pushed
        ∙ ap (λ given. given ++ answer_at script later s e) front
        ∙ ap (λ one. answers_of script events ++ one) (ap (λ log. answer_at script log s e) grown ∙ answer_at-step s.log s e)

    -- and nothing, where it is no answer
    pub answers_same : IsSilent e → answers_of script (events ++ e ∷ []) ≡ answers_of script events
    answers_same silent =
        answers_more ∙ ap (λ one. answers_of script events ++ one) (answer_at-silent s.log s e silent) ∙ append-nil (answers_of script events)
