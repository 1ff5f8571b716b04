use Rattle.gsi_sched.specs.Replay.{after_clients}
use Rattle.gsi_sched.specs.inner.Following.{IsFollowing, GoesReading}
use Rattle.gsi_sched.proofs.machine.RunningMachine.finish_clients.Given as goal

abbrev pub invariant-loop-c : goal.invariant-loop-c
invariant-loop-c l = record {
  following : IsFollowing l.self;
  goes : GoesReading (λ read. after_clients read l.script l.c) l.fn.self l.self;
}
