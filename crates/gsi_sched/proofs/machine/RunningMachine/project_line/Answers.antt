use Rattle.std.proofs.Common.{sym, subst}
use Rattle.std.specs.Option.{option_copied}
use Rattle.std.proofs.lemmas.Result.{on_ok_weaker}
use Rattle.scan_history.specs.declared.turn.Turn.TheVariants as turn
use Rattle.gsi_sched.specs.ScheduleLines.{is_building, on_index, project_to}
use Rattle.gsi_sched.specs.Replay.{after_turn}
use Rattle.gsi_sched.specs.inner.Following.{GoesReading}
use Rattle.gsi_sched.proofs.Followed.{goes_reading}
use Rattle.gsi_sched.proofs.NamedLines.{building_in, line_goes, line_stays}
use Rattle.gsi_sched.proofs.machine.RunningMachine.project_line.Goals as goal

pub project_to-requires-clause-building : goal.project_to-requires-clause-building
project_to-requires-clause-building c = building_in c.known.ensures.below c.args.self.now c.requires.following c.in-Some.name.now c.in-Some-building.i (sym c.in-Some-building.ensures)

pub returns-in-Some-building : goal.returns-in-Some-building
returns-in-Some-building c =
    let r = c.args.self.now in
    let script = r.hub.script in
    let n = script.vbuckets in
    let new = c.project_to.new.self in
    let does = project_to n script.batch c.args.vb in
    on_ok_weaker c.project_to.result
    (λ goes. subst (λ o. GoesReading (λ read m. after_turn read script m (turn.Project c.args.vb (option_copied o))) r new) (sym c.in-Some.is)
    (goes_reading (on_index n c.in-Some.name.now is_building does) r new (line_goes r c.in-Some.name.now is_building does new c.in-Some-building.i (sym c.in-Some-building.ensures) goes)))
    c.project_to.ensures

pub returns-in-None : goal.returns-in-None
returns-in-None c =
    let r = c.args.self.now in
    let script = r.hub.script in
    let n = script.vbuckets in
    let does = project_to n script.batch c.args.vb in
    subst (λ o. GoesReading (λ read m. after_turn read script m (turn.Project c.args.vb (option_copied o))) r r) (sym c.in-Some.is)
    (goes_reading (on_index n c.in-Some.name.now is_building does) r r (line_stays r c.in-Some.name.now is_building does (sym c.in-None.ensures)))
