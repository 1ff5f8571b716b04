use Rattle.std.proofs.Common.{sym}
use Rattle.gsi_sched.proofs.NamedLines.{working_in}
use Rattle.gsi_sched.proofs.machine.RunningMachine.deliver_line.Goals as goal

pub deliver-requires-clause-working : goal.deliver-requires-clause-working
deliver-requires-clause-working c = working_in c.known.ensures.below c.args.self.now c.requires.following c.args.name.now c.in-Some.i (sym c.in-Some.ensures)
