use Rattle.std.proofs.Common.{◌≡◌, List, Some, slice_get, length, fold, refl, subst}
use Rattle.std.proofs.lemmas.List.{take_all}
use Rattle.std.proofs.lemmas.Option.{slice_get_read}
use Rattle.scan_history.specs.declared.turn.Turn.{Turn}
use Rattle.gsi_sched.specs.Replay.{after_turn}
use Rattle.gsi_sched.specs.inner.Following.{GoesReading}
use Rattle.gsi_sched.proofs.Followed.{follows_on}
use Rattle.gsi_sched.proofs.WholeSteps.{turns_next}
use Rattle.gsi_sched.proofs.machine.RunningMachine.take_turns.Goals as goal

pub loop-turn-preserved : goal.loop-turn-preserved
loop-turn-preserved c =
    let turns : List Turn = c.args.turns.now in
    let i = c.loop-turn.turn-index in
    let turn : Turn = c.turn-item.result in
    let mid = c.loop-turn.self in
    let new = c.take_turn.new.self in
    let there : slice_get turns i ≡ Some turn = slice_get_read turns (length turns) i turn refl c.loop-turn-test.true c.turn-item.is in
    record {
      following = follows_on (λ read m. after_turn read mid.hub.script m turn) mid new c.known.ensures.some_read.0 c.known.ensures.some_read.1 c.in_ok-take_turn.ensures c.loop-turn.invariant.following;
      goes = turns_next turns i turn c.args.self.now mid new there c.loop-turn.invariant.goes c.in_ok-take_turn.ensures;
    }

pub returns : goal.returns
returns c =
    let turns : List Turn = c.args.turns.now in
    subst (λ (lines : List Turn). GoesReading (λ read m. fold (after_turn read c.args.self.now.hub.script) m lines) c.args.self.now c.loop-turn.self)
    (take_all c.loop-turn.turn-index turns c.loop-turn-test.false) c.loop-turn.invariant.goes
