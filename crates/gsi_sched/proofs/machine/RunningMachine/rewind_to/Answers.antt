use Rattle.std.proofs.Common.{refl}
use Rattle.gsi_sched.specs.declared.machine.RunningMachine.{RunningMachine}
use Rattle.gsi_sched.proofs.KeptByLines.{initial_sized, rewind_to_goes}
use Rattle.gsi_sched.proofs.machine.RunningMachine.rewind_to.Goals as goal

pub rewind_initial-requires : goal.rewind_initial-requires
rewind_initial-requires c =
    record { size = initial_sized c.below.ensures c.args.self.now c.requires.following.0 c.args.i c.requires.following.1 c.requires.building c.args.to.now c.requires.size }

pub returns : goal.returns
returns c =
    let r : RunningMachine = c.args.self.now in
    let t : RunningMachine = record r { streams = c.rewind_initial.new.streams } in
    rewind_to_goes c.below.ensures r t (record { hub = refl; script = refl; answers = refl }) c.args.to.now c.args.i c.requires.size c.requires.building c.rewind_initial.ensures refl
