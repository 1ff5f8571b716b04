use Rattle.std.proofs.Common.{sym}
use Rattle.gsi_sched.proofs.NamedLines.{building_in}
use Rattle.gsi_sched.proofs.machine.RunningMachine.rewind_line.Goals as goal

pub rewind_to-requires-clause-building : goal.rewind_to-requires-clause-building
rewind_to-requires-clause-building c = building_in c.known.ensures.below c.args.self.now c.requires.following c.in-Some.name.now c.in-Some-building.i (sym c.in-Some-building.ensures)
