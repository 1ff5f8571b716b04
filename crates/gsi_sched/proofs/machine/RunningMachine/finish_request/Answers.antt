use Rattle.std.proofs.Common.{subst}
use Rattle.std.specs.Prelude.{IfSome}
use Rattle.std.specs.Arc.{arc_value}
use Rattle.std.proofs.lemmas.Result.{on_ok_weaker}
use Rattle.gsi_sched.specs.ClientActions.{act}
use Rattle.gsi_sched.specs.inner.ClientTurns.{IsShortOf, IsStill}
use Rattle.gsi_sched.proofs.Followed.{goes_after_still}
use Rattle.gsi_sched.proofs.machine.RunningMachine.finish_request.Goals as goal

pub returns-in-Some : goal.returns-in-Some
returns-in-Some c =
    let short = subst (λ o. IfSome o (λ at. IsShortOf c.args.c (arc_value at) c.args.self.now × IsStill c.args.self.now c.decide.new.self)) c.in-Some.is c.in_ok-at.ensures.short in
    on_ok_weaker c.finish_short.result (goes_after_still (λ s read. act read s c.args.c) c.args.self.now c.decide.new.self c.finish_short.new.self short.1) c.finish_short.ensures
