use Rattle.std.proofs.lemmas.Result.{on_ok_weaker}
use Rattle.gsi_hub.specs.Past.{high_in}
use Rattle.gsi_sched.specs.declared.machine.RunningMachine.{RunningMachine}
use Rattle.gsi_sched.specs.inner.Following.{with_worker_at}
use Rattle.gsi_sched.proofs.PublishedSlots.{works_still, caught_up_goes}
use Rattle.gsi_sched.proofs.machine.RunningMachine.catch_up.Goals as goal

pub publish-requires : goal.publish-requires
publish-requires c =
    let r : RunningMachine = c.args.self.now in
    let following = c.requires.following in
    let high = high_in r.hub in
    record {
      following = (with_worker_at high c.args.i following.0, c.in_ok-bring_up.ensures.follows following.0 following.1);
      working = works_still r c.bring_up.new.self c.args.i high c.in_ok-bring_up.ensures following c.requires.working;
    }

pub returns : goal.returns
returns c =
    on_ok_weaker c.publish.result
    (λ out. caught_up_goes c.args.self.now c.bring_up.new.self c.publish.new.self c.args.i c.in_ok-bring_up.ensures out)
    c.publish.ensures
