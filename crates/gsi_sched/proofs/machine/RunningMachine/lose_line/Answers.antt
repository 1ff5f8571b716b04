use Rattle.std.proofs.Common.{sym}
use Rattle.gsi_sched.proofs.NamedLines.{working_in}
use Rattle.gsi_sched.proofs.machine.RunningMachine.lose_line.Goals as goal

pub lose-requires-clause-working : goal.lose-requires-clause-working
lose-requires-clause-working c = working_in c.known.ensures.below c.args.self.now c.requires.following c.args.name.now c.in-Some.i (sym c.in-Some.ensures)
