use Rattle.std.proofs.Common.{◌+◌, ◌<◌, ◌≤◌, length, sym, ap, ◌∙◌, subst, arith}
use Rattle.std.proofs.lemmas.List.{take_all}
use Rattle.gsi_hub.specs.Past.{state_of}
use Rattle.gsi_sched.proofs.WholeSteps.{AreCaughtUp, there_below, online_there, online_works, one_more_caught_up, passed_over, all_caught_up}
use Rattle.gsi_sched.proofs.machine.RunningMachine.finish_indexes.Goals as goal
use Rattle.gsi_sched.proofs.machine.RunningMachine.finish_indexes.Goals.{in-Some+in_ok-catch_up, in_default}

pub catch_up-requires-clause-working : goal.catch_up-requires-clause-working
catch_up-requires-clause-working c =
    let mid = c.loop-at.self in
    online_works c.known.ensures c.args.self.now mid c.loop-at.at c.in-Some.i c.loop-at.invariant
    (online_there (state_of mid.hub).live c.loop-at.at c.in-Some.i (sym c.online_at.ensures ∙ c.in-Some.is))

pub loop-at-preserved : goal.loop-at-preserved
loop-at-preserved c =
    let old = c.args.self.now in
    let mid = c.loop-at.self in
    let at = c.loop-at.at in
    elim c.match-online_at.branch [
      | in-Some+in_ok-catch_up w ↦
          let is = online_there (state_of mid.hub).live at w.in-Some.i (sym c.online_at.ensures ∙ w.in-Some.is) in
          subst (AreCaughtUp (at + 1) old) (sym w.self-is)
          (one_more_caught_up c.known.ensures old mid at w.in-Some.i c.loop-at.invariant w.catch_up.new.self is w.in_ok-catch_up.ensures)
      | in_default w ↦
          let count = ap length c.catalog.ensures.live in
          let still = ap length c.loop-at.invariant.live in
          let within : at < length (state_of mid.hub).live = omega (arith, c.loop-at-test.true, c.len-at-end.ensures, count, still) in
          let some = there_below (state_of mid.hub).live at within in
          subst (AreCaughtUp (at + 1) old) (sym w.self-is) (passed_over old mid at some.0 some.1 (sym c.online_at.ensures ∙ w.in_default.is) c.loop-at.invariant)
    ]

pub returns : goal.returns
returns c =
    let old = c.args.self.now in
    let count = ap length c.catalog.ensures.live in
    let all : length (state_of old.hub).live ≤ c.loop-at.at = omega (arith, c.loop-at-test.false, c.len-at-end.ensures, count) in
    all_caught_up old c.loop-at.self c.loop-at.at (take_all c.loop-at.at (state_of old.hub).live all) c.loop-at.invariant
