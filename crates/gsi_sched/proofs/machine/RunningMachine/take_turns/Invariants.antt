use Rattle.std.proofs.Common.{fold, take}
use Rattle.gsi_sched.specs.Replay.{after_turn}
use Rattle.gsi_sched.specs.inner.Following.{IsFollowing, GoesReading}
use Rattle.gsi_sched.proofs.machine.RunningMachine.take_turns.Given as goal

abbrev pub invariant-loop-turn : goal.invariant-loop-turn
invariant-loop-turn l = record {
  following : IsFollowing l.self;
  goes : GoesReading (λ read m. fold (after_turn read l.fn.self.hub.script) m (take l.turn-index l.turns)) l.fn.self l.self;
}
