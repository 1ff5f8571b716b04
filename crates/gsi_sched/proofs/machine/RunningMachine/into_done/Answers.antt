use Rattle.scan_history.specs.Answers.{ends_of}
use Rattle.gsi_sched.proofs.machine.RunningMachine.into_done.Goals as goal

pub returns-clause-ends : goal.returns-clause-ends
unfolding ends_of
returns-clause-ends c = c.in_ok-ends.ensures
