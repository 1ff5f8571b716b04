use Rattle.std.proofs.Common.{refl}
use Rattle.gsi_sched.specs.declared.machine.RunningMachine.{RunningMachine}
use Rattle.gsi_sched.proofs.KeptByLines.{maint_sized, rewind_goes}
use Rattle.gsi_sched.proofs.machine.RunningMachine.rewind.Goals as goal

pub rewind-requires : goal.rewind-requires
rewind-requires c =
    record { size = maint_sized c.below.ensures c.args.self.now c.requires.following.0 c.requires.following.1 c.args.to.now c.requires.size }

pub returns : goal.returns
returns c =
    let r : RunningMachine = c.args.self.now in
    let t : RunningMachine = record r { streams = c.rewind.new.streams } in
    rewind_goes c.below.ensures r t (record { hub = refl; script = refl; answers = refl }) c.args.to.now c.requires.size c.rewind.ensures refl
