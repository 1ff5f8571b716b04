use Rattle.std.proofs.Common.{sym}
use Rattle.gsi_sched.proofs.NamedLines.{working_in}
use Rattle.gsi_sched.proofs.machine.RunningMachine.publish_line.Goals as goal

pub publish-requires-clause-working : goal.publish-requires-clause-working
publish-requires-clause-working c = working_in c.known.ensures.below c.args.self.now c.requires.following c.args.name.now c.in-Some.i (sym c.in-Some.ensures)
