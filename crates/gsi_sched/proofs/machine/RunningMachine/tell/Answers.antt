use Rattle.std.proofs.Common.{List, ap, ◌∙◌, subst}
use Rattle.std.proofs.lemmas.Result.{on_ok_weaker}
use Rattle.index_tree.specs.Range.{rows_within}
use Rattle.scan_history.specs.declared.script.Script.{Script}
use Rattle.scan_history.specs.Answers.{spans_of}
use Rattle.scan_history.specs.Events.{Event}
use Rattle.scan_history.specs.First.{command_at}
use Rattle.scan_history.specs.RowTexts.{rows_text}
use Rattle.gsi_sched.specs.inner.ClientTurns.{EndsInAnswer}
use Rattle.gsi_sched.proofs.Told.{told}
use Rattle.gsi_sched.proofs.machine.RunningMachine.tell.Goals as goal

pub returns : goal.returns
returns c =
    let d = c.answered-c.result.0 in
    let k = c.answered-c.result.1 in
    let x = c.args.snapshot.now in
    let ends = subst (λ (events : List Event). EndsInAnswer d k events) c.events.ensures c.answered-c.ensures in
    let text = c.in_ok-text.ensures ∙ ap (λ (s : Script). rows_text (rows_within (spans_of (command_at s d k)) x.rows)) c.deref.ensures in
    on_ok_weaker c.push.result (told c.known.ensures c.args.self.now x d k c.in_ok-text.text c.push.new.self c.requires.untold ends text) c.push.ensures.ok
