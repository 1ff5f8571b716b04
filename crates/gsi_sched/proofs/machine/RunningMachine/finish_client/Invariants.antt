use Rattle.gsi_sched.specs.Replay.{after_actions}
use Rattle.gsi_sched.specs.inner.Following.{IsFollowing, GoesReading}
use Rattle.gsi_sched.proofs.machine.RunningMachine.finish_client.Given as goal

abbrev pub invariant-loop : goal.invariant-loop
invariant-loop l = record {
  following : IsFollowing l.self;
  goes : GoesReading (λ read. after_actions read l.fn.self.hub.script l.c l.counter) l.fn.self l.self;
}
