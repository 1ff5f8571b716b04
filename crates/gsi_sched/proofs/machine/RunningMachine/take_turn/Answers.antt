use Rattle.std.proofs.Common.{ℕ, List, Option, sym, subst}
use Rattle.std.proofs.lemmas.Result.{on_ok_weaker}
use Rattle.scan_history.specs.declared.turn.Turn.{Turn}
use Rattle.scan_history.specs.declared.turn.Turn.TheVariants as turn
use Rattle.gsi_sched.specs.Replay.{after_turn}
use Rattle.gsi_sched.specs.inner.Following.{GoesReading}
use Rattle.gsi_sched.proofs.machine.RunningMachine.take_turn.Goals as goal

pub returns-in-Client : goal.returns-in-Client
returns-in-Client c =
    let r = c.args.self.now in
    on_ok_weaker c.act.result
    (subst (λ (t : Turn). GoesReading (λ read m. after_turn read r.hub.script m t) r c.act.new.self) (sym c.in-Client.is))
    c.act.ensures

pub returns-in-Project : goal.returns-in-Project
returns-in-Project c =
    let r = c.args.self.now in
    let new = c.project_line.new.self in
    on_ok_weaker c.project_line.result
    (λ goes. subst (λ (t : Turn). GoesReading (λ read m. after_turn read r.hub.script m t) r new) (sym c.in-Project.is)
    (subst (λ (o : Option (List ℕ)). GoesReading (λ read m. after_turn read r.hub.script m (turn.Project c.in-Project.vb o)) r new) c.as_ref.ensures.value goes))
    c.project_line.ensures

pub returns-in-Rewind : goal.returns-in-Rewind
returns-in-Rewind c =
    let r = c.args.self.now in
    let new = c.rewind_line.new.self in
    subst (λ (t : Turn). GoesReading (λ read m. after_turn read r.hub.script m t) r new) (sym c.in-Rewind.is)
    (subst (λ (o : Option (List ℕ)). GoesReading (λ read m. after_turn read r.hub.script m (turn.Rewind c.in-Rewind.to o)) r new) c.as_ref-in-Rewind.ensures.value c.rewind_line.ensures)
