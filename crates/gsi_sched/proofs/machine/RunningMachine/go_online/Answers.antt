use Rattle.std.proofs.Common.{◌<◌, List, sym, subst, arith}
use Rattle.scan_history.specs.declared.script.Script.{Script}
use Rattle.scan_history.specs.Events.{Event}
use Rattle.scan_history.specs.Fold.{state_after}
use Rattle.gsi_hub.specs.Past.{part_in}
use Rattle.gsi_sched.specs.inner.ClientTurns.{IsWork}
use Rattle.gsi_sched.proofs.Followed.{carried}
use Rattle.gsi_sched.proofs.FirstCalls.{beside_hub}
use Rattle.gsi_sched.proofs.Buildings.{on_any_work, has_ended, lags}
use Rattle.gsi_sched.proofs.machine.RunningMachine.go_online.Goals as goal

pub online-requires : goal.online-requires
online-requires c = record {
  client = subst (λ (s : Script). c.args.c < s.clients) (sym c.reserve.ensures.same.script) c.requires.client;
  spare = omega (arith, c.in_ok-reserve.ensures.room);
  work =
      on_any_work (part_in c.reserve.new.self c.args.c).opened
      (carried c.args.self.now.hub c.reserve.new.self c.reserve.ensures.same (λ (script : Script) (events : List Event). IsWork ((state_after script.vbuckets events).client c.args.c).opened) c.requires.work);
}

pub returns-in-NotCovered-clause-lags : goal.returns-in-NotCovered-clause-lags
returns-in-NotCovered-clause-lags c =
    let r = c.args.self.now in
    lags c.known.ensures r (record r { hub = c.online.new.self }) c.args.c (beside_hub r c.online.new.self) c.reserve.new.self c.reserve.ensures.same c.requires.work
    c.online.result c.online.ensures c.in-NotCovered.i c.in-NotCovered.is

pub returns-in_default-clause-ended : goal.returns-in_default-clause-ended
returns-in_default-clause-ended c =
    let r = c.args.self.now in
    (has_ended c.known.ensures r (record r { hub = c.online.new.self }) c.args.c (beside_hub r c.online.new.self) c.reserve.new.self c.reserve.ensures.same c.requires.work
    c.online.result c.online.ensures c.in_default.not-NotCovered).0

pub returns-in_default-clause-none : goal.returns-in_default-clause-none
returns-in_default-clause-none c =
    let r = c.args.self.now in
    (has_ended c.known.ensures r (record r { hub = c.online.new.self }) c.args.c (beside_hub r c.online.new.self) c.reserve.new.self c.reserve.ensures.same c.requires.work
    c.online.result c.online.ensures c.in_default.not-NotCovered).1
