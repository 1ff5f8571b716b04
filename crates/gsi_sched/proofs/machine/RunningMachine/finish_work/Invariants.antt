use Rattle.gsi_sched.specs.inner.Following.{IsFollowing}
use Rattle.gsi_sched.specs.inner.ClientTurns.{IsBuildingFor}
use Rattle.gsi_sched.proofs.BuildingTurns.{IsToAct, lag_count}
use Rattle.gsi_sched.proofs.machine.RunningMachine.finish_work.Given as goal

abbrev pub invariant-loop-i : goal.invariant-loop-i
invariant-loop-i l = record {
  following : IsFollowing l.self;
  work : IsBuildingFor l.self.hub l.c;
  to_act : IsToAct l.c l.fn.self l.self;
}

abbrev pub decreases-loop-i : goal.decreases-loop-i
decreases-loop-i l = lag_count l.c l.self
