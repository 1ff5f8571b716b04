use Rattle.std.proofs.Common.{◌≡◌, subst, arith}
use Rattle.gsi_sched.specs.ClientActions.{act}
use Rattle.gsi_sched.specs.Replay.{after_actions}
use Rattle.gsi_sched.specs.inner.Following.{GoesReading}
use Rattle.gsi_sched.proofs.Followed.{follows_on}
use Rattle.gsi_sched.proofs.WholeSteps.{actions_next}
use Rattle.gsi_sched.proofs.machine.RunningMachine.finish_client.Goals as goal

pub loop-preserved : goal.loop-preserved
loop-preserved c =
    let mid = c.loop.self in
    let new = c.act.new.self in
    let read = c.known.ensures.some_read in
    record {
      following = follows_on (λ read. act read mid.hub.script c.args.c) mid new read.0 read.1 c.in_ok-act.ensures c.loop.invariant.following;
      goes = actions_next c.args.c c.loop.counter c.args.self.now mid new c.loop.invariant.goes c.in_ok-act.ensures;
    }

pub returns : goal.returns
returns c =
    let all : c.loop.counter ≡ c.args.actions = omega arith in
    subst (λ k. GoesReading (λ read. after_actions read c.args.self.now.hub.script c.args.c k) c.args.self.now c.loop.self) all c.loop.invariant.goes
