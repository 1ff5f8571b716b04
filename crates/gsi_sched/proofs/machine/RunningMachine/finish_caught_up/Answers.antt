use Rattle.std.proofs.Common.{subst}
use Rattle.std.specs.Prelude.{IfSome}
use Rattle.std.specs.Arc.{arc_value}
use Rattle.gsi_sched.specs.inner.ClientTurns.{IsShortOf, IsStill}
use Rattle.gsi_sched.proofs.Decided.{may_still}
use Rattle.gsi_sched.proofs.machine.RunningMachine.finish_caught_up.Goals as goal

pub say_not_yet-requires-clause-may : goal.say_not_yet-requires-clause-may
say_not_yet-requires-clause-may c =
    let short = subst (λ o. IfSome o (λ at. IsShortOf c.args.c (arc_value at) c.args.self.now × IsStill c.args.self.now c.decide.new.self)) c.in-Some.is c.in_ok-at.ensures.short in
    may_still c.args.self.now c.decide.new.self short.1 c.requires.following c.args.c (arc_value c.in-Some.at) (c.requires.may (arc_value c.in-Some.at) short.0)
