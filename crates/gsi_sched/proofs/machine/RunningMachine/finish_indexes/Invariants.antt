use Rattle.gsi_sched.proofs.WholeSteps.{AreCaughtUp}
use Rattle.gsi_sched.proofs.machine.RunningMachine.finish_indexes.Given as goal

abbrev pub invariant-loop-at : goal.invariant-loop-at
invariant-loop-at l = AreCaughtUp l.at l.fn.self l.self
