use Rattle.std.proofs.Common.{[], length, refl}
use Rattle.vb_store.specs.Mutations.{high_of}
use Rattle.scan_history.specs.Answers.{ends_of}
use Rattle.scan_history.specs.Fold.{state_after}
use Rattle.script_text.specs.Reports.{report_text, no_demands}
use Rattle.script_text.proofs.SmallNumbers.{spent_first}
use Rattle.script_text.proofs.SameReports.{Known, same_events}
use Rattle.script_text.proofs.laws.equal_reports.Goals as goal

pub returns : goal.returns
unfolding report_text state_after
returns c script events others sound legal too same =
    let some = c.texts_are_read_in_one_way.ensures.some in
    let known : Known = record {
      marks = c.marks_tell_events.ensures.event;
      next_state = c.one_more.ensures.state;
      next_legal = c.one_more.ensures.legal;
      begins = c.beginnings.ensures.legal;
      consistent = c.a_legal_history_is_consistent.ensures;
      asked = c.an_open_request_was_asked_for.ensures.asked;
      answers = c.answers_stay.ensures;
      few = c.high_counts.ensures.few;
      size = c.high_counts.ensures.size;
    } in
    let n = script.vbuckets in
    same_events script known sound some.0 some.1 events others [] 0 no_demands
    (length events) (high_of n (state_after n events).log) (ends_of script events)
    (length others) (high_of n (state_after n others).log) (ends_of script others)
    (spent_first script) (λ log. refl) legal too same
