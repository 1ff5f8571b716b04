use Rattle.std.proofs.Common.{refl}
use Rattle.std.proofs.lemmas.Result.{on_ok_weaker}
use Rattle.gsi_sched.specs.declared.machine.RunningMachine.{RunningMachine}
use Rattle.gsi_sched.proofs.KeptByLines.{takes_from, deliver_goes}
use Rattle.gsi_sched.proofs.machine.RunningMachine.deliver.Goals as goal

pub deliver_at-requires : goal.deliver_at-requires
deliver_at-requires c = record { takes = takes_from c.below.ensures c.stood.ensures c.args.self.now c.args.place c.args.i c.requires.following c.requires.working }

pub returns : goal.returns
returns c =
    let r : RunningMachine = c.args.self.now in
    let t : RunningMachine = record r { slots = c.deliver_at.new.slots } in
    on_ok_weaker c.deliver_at.result
    (λ slots. deliver_goes c.below.ensures c.stood.ensures r t (record { hub = refl; script = refl; answers = refl }) c.args.place c.args.i c.requires.working refl slots)
    c.deliver_at.ensures
