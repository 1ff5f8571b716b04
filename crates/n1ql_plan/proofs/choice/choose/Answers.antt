use Rattle.std.proofs.Common.{◌≡◌, ◌-◌, ◌<◌, rules, slice_get, Some, arith}
use Rattle.n1ql_plan.specs.inner.Held.{better_of, candidate_in, held_in}
use Rattle.n1ql_plan.proofs.Choices.{choice_before}
use Rattle.n1ql_plan.proofs.choice.choose.Goals as goal

pub loop-at-preserved-in-Some : goal.loop-at-preserved-in-Some
loop-at-preserved-in-Some c =
    let live = c.args.catalog.now.live in
    let before : 0 < c.loop-at.at = search rules in
    let here : Some c.in-Some.index.now ≡ slice_get live (c.loop-at.at - 1) = search rules in
    let is : held_in c.in_ok-candidate.field-0 ≡ candidate_in c.args.q.now c.in-Some.index.now = search rules in
    let made : held_in c.better-best.result ≡ better_of (held_in c.in_ok-candidate.field-0) (held_in c.loop-at.best) = search rules in
    choice_before c.args.q.now live c.loop-at.at c.in-Some.index.now (held_in c.in_ok-candidate.field-0) (held_in c.loop-at.best) (held_in c.better-best.result)
    before here is c.loop-at.invariant made
