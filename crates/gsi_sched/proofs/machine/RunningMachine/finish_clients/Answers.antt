use Rattle.std.proofs.Common.{◌≡◌, ◌*◌, ap, subst, arith}
use Rattle.gsi_sched.specs.Replay.{after_actions, after_clients}
use Rattle.gsi_sched.specs.inner.Following.{GoesReading}
use Rattle.gsi_sched.proofs.Followed.{follows_on}
use Rattle.gsi_sched.proofs.WholeSteps.{clients_next}
use Rattle.gsi_sched.proofs.machine.RunningMachine.finish_clients.Goals as goal

pub loop-c-preserved : goal.loop-c-preserved
loop-c-preserved c =
    let mid = c.loop-c.self in
    let new = c.finish_client.new.self in
    let read = c.known.ensures.some_read in
    let actions = 3 * c.command_count.result in
    record {
      following = follows_on (λ read. after_actions read mid.hub.script c.loop-c.c actions) mid new read.0 read.1 c.in_ok-finish_client.ensures c.loop-c.invariant.following;
      goes = clients_next c.args.script.now c.loop-c.c actions c.args.self.now mid new c.requires.script (ap (λ k. 3 * k) c.command_count.ensures.count) c.loop-c.invariant.goes c.in_ok-finish_client.ensures;
    }

pub returns : goal.returns
returns c =
    let all : c.loop-c.c ≡ c.args.script.now.clients = omega arith in
    subst (λ k. GoesReading (λ read. after_clients read c.args.script.now k) c.args.self.now c.loop-c.self) all c.loop-c.invariant.goes
