use Rattle.std.proofs.Common.{◌<◌, sym, subst}
use Rattle.std.proofs.lemmas.Result.{on_ok_weaker}
use Rattle.scan_history.specs.declared.script.Script.{Script}
use Rattle.gsi_sched.proofs.Acting.{is_one_ahead}
use Rattle.gsi_sched.proofs.Followed.{still_following}
use Rattle.gsi_sched.proofs.CaughtBuildings.{works_in_hub, builds_still, fewer_lag}
use Rattle.gsi_sched.proofs.BuildingTurns.{to_act, first_that_lags, has_come, awaits_none, acted, to_act_then, following_then}
use Rattle.gsi_sched.proofs.machine.RunningMachine.finish_work.Goals as goal

pub loop-i-init : goal.loop-i-init
loop-i-init c = record { following = c.requires.following; work = c.requires.work; to_act = to_act c.args.c c.args.self.now }

pub go_online-requires : goal.go_online-requires
go_online-requires c = record {
  following = c.loop-i.invariant.following;
  client = subst (λ (s : Script). c.args.c < s.clients) (sym c.loop-i.invariant.to_act.script) c.requires.client;
  work = c.loop-i.invariant.work;
}

pub catch_up-requires : goal.catch_up-requires
catch_up-requires c =
    let now = c.loop-i.self in
    let mid = c.go_online.new.self in
    let following = c.loop-i.invariant.following in
    let lags = first_that_lags c.args.c now mid c.in_ok-i.field-0 c.in-Some.i c.in-Some.is c.in_ok-i.ensures.lags in
    let first = lags.0 in
    let still = lags.1 in
    record {
      following = still_following now mid still following;
      working = works_in_hub c.known.ensures now mid c.args.c c.in-Some.i c.loop-i.invariant.work first still following.0 following.1;
    }

pub loop-i-preserved : goal.loop-i-preserved
loop-i-preserved c =
    let now = c.loop-i.self in
    let mid = c.go_online.new.self in
    let new = c.catch_up.new.self in
    let following = c.loop-i.invariant.following in
    let work = c.loop-i.invariant.work in
    let lags = first_that_lags c.args.c now mid c.in_ok-i.field-0 c.in-Some.i c.in-Some.is c.in_ok-i.ensures.lags in
    let first = lags.0 in
    let still = lags.1 in
    let goes = c.in_ok-catch_up.ensures in
    record {
      following = following_then c.known.ensures c.args.self.now now mid c.args.c c.loop-i.invariant.to_act c.in-Some.i work first still new goes following;
      work = builds_still c.known.ensures now mid c.args.c c.in-Some.i work first still following.0 following.1 new goes;
      to_act = to_act_then c.known.ensures c.args.self.now now mid c.args.c c.loop-i.invariant.to_act c.in-Some.i work first still new goes;
    }

pub loop-i-smaller : goal.loop-i-smaller
loop-i-smaller c =
    let following = c.loop-i.invariant.following in
    let lags = first_that_lags c.args.c c.loop-i.self c.go_online.new.self c.in_ok-i.field-0 c.in-Some.i c.in-Some.is c.in_ok-i.ensures.lags in
    fewer_lag c.known.ensures c.loop-i.self c.go_online.new.self c.args.c c.in-Some.i c.loop-i.invariant.work lags.0 lags.1 following.0 following.1 c.catch_up.new.self c.in_ok-catch_up.ensures

pub follow-requires : goal.follow-requires
follow-requires c =
    let now = c.loop-i.self in
    let mid = c.go_online.new.self in
    is_one_ahead now c.args.c c.known.ensures mid c.loop-i.invariant.following (has_come c.args.c now mid c.in_ok-i.field-0 c.in_default.not-Some c.in_ok-i.ensures.ended)

pub returns : goal.returns
returns c =
    let now = c.loop-i.self in
    let mid = c.go_online.new.self in
    let come = has_come c.args.c now mid c.in_ok-i.field-0 c.in_default.not-Some c.in_ok-i.ensures.ended in
    let none = awaits_none c.args.c now mid c.in_ok-i.field-0 c.in_default.not-Some c.in_ok-i.ensures.none in
    on_ok_weaker c.follow.result
    (λ done. acted c.known.ensures c.args.self.now now mid c.args.c c.loop-i.invariant.to_act c.follow.new.self none come done)
    c.follow.ensures
