use Rattle.std.proofs.Common.{◌≡◌, ℕ, List, Result, Ok, Err, ap, ap₂, ◌∙◌, subst}
use Rattle.std.specs.Prelude.{IfOk}
use Rattle.std.specs.Arc.{arc_value}
use Rattle.scan_history.specs.declared.done.Answered.{Answered}
use Rattle.scan_history.specs.declared.done.End.{End}
use Rattle.scan_history.specs.declared.script.Script.{Script}
use Rattle.scan_history.specs.Answers.{answers_of, ends_of}
use Rattle.scan_history.specs.Events.{Event}
use Rattle.scan_history.specs.Fold.{state_after}
use Rattle.scan_history.specs.Legal.{IsLegal, IsFinished}
use Rattle.scan_history.specs.Served.{AreServed}
use Rattle.script_text.specs.Reports.{report_text, report_of}
use Rattle.gsi_main.specs.Answer.{IsReplayOf, IsReplayReport}
use Rattle.gsi_main.proofs.history.replay_report.Goals as goal

-- the script that is replayed is the one that was read, and so is the one that the report is made with
module _ (read s d : Script) (events : List Event) (answers : List Answered) (ends : List End) (text : List ℕ) (is : s ≡ read) (same : d ≡ read) where
  reported : IsReplayOf s events → IsLegal s events → IsFinished s (state_after s.vbuckets events) → (IsLegal read events → AreServed read events)
      → answers ≡ answers_of s events → ends ≡ ends_of s events → text ≡ report_text d.vbuckets events answers ends → IsReplayReport read text
  reported replayed legal finished served answered ended told = record {
    history = events;
    replayed = subst (λ x. IsReplayOf x events) is replayed;
    good = record {
      legal = subst (λ x. IsLegal x events) is legal;
      finished = subst (λ (x : Script). IsFinished x (state_after x.vbuckets events)) is finished;
      served = served (subst (λ x. IsLegal x events) is legal);
    };
    told =
        told ∙ (ap (λ (x : Script). report_text x.vbuckets events answers ends) same
        ∙ ap₂ (report_text read.vbuckets events) (answered ∙ ap (λ x. answers_of x events) is) (ended ∙ ap (λ x. ends_of x events) is));
  }

if_made : {A E : Type 0} (r : Result A E) (P Q : A → Type 0) → ((x : A) → P x → Q x) → IfOk r P → IfOk r Q
if_made (Ok x) P Q so holds = so x holds
if_made (Err e) P Q so holds = tt

pub returns : goal.returns
returns c =
    let read : Script = c.args.script in
    let is : arc_value c.in_ok-script.script ≡ read = c.in_ok-script.ensures.ok in
    let copied : arc_value c.in_ok-try_clone.field-0 ≡ read = c.in_ok-try_clone.ensures ∙ is in
    let same : c.deref.result.now ≡ read = c.deref.ensures ∙ is in
    let done = c.in_ok-done.done in
    let given = c.in_ok-done.ensures in
    if_made c.report.result _ _
    (λ text told.
    reported read (arc_value c.in_ok-try_clone.field-0) c.deref.result.now done.events done.answers done.ends text.items copied same
    given.events given.legal given.finished (c.requests_are_served.ensures read done.events c.requires) given.answers given.ends told)
    c.report.ensures
