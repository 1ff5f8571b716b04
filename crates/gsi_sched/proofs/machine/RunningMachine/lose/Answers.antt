use Rattle.std.proofs.Common.{refl}
use Rattle.gsi_sched.specs.declared.machine.RunningMachine.{RunningMachine}
use Rattle.gsi_sched.proofs.KeptByLines.{slot_there, lose_goes}
use Rattle.gsi_sched.proofs.machine.RunningMachine.lose.Goals as goal

pub lose_at-requires : goal.lose_at-requires
lose_at-requires c = record { there = slot_there c.below.ensures c.stood.ensures c.args.self.now c.args.i c.requires.following c.requires.working }

pub returns : goal.returns
returns c =
    let r : RunningMachine = c.args.self.now in
    let t : RunningMachine = record r { slots = c.lose_at.new.slots } in
    lose_goes c.below.ensures c.stood.ensures r t (record { hub = refl; script = refl; answers = refl }) c.args.place c.args.i c.requires.working refl c.lose_at.ensures
