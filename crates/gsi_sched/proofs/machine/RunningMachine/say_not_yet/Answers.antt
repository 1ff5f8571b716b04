use Rattle.std.specs.Arc.{arc_value}
use Rattle.gsi_sched.proofs.Decided.{says_not_yet}
use Rattle.gsi_sched.proofs.machine.RunningMachine.say_not_yet.Goals as goal

pub returns : goal.returns
returns c =
    says_not_yet c.known.ensures c.args.self.now c.reserve.new.self c.reserve.ensures.same c.args.c c.not_yet.new.self (arc_value c.args.at) c.requires.may c.not_yet.ensures
