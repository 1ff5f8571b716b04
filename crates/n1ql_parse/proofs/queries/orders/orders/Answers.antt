use Rattle.std.proofs.Common.{rules, arith}
use Rattle.std.proofs.lemmas.Grind.{common_steps}
use Rattle.n1ql_parse.specs.inner.Queries.{orders, orders_from}
use Rattle.n1ql_parse.proofs.Turns.{one_more, no_more}
use Rattle.n1ql_parse.proofs.queries.orders.orders.Goals as goal

pub loop-turn-init : goal.loop-turn-init
unfolding orders
loop-turn-init c = first_of (search rules, grind (arith, common_steps))

pub returns-in_err-order : goal.returns-in_err-order
unfolding orders_from
returns-in_err-order c =
    let e = one_more (λ n. orders_from n c.loop-turn.found c.loop-turn.tokens) _ c.loop-turn._turn c.loop-turn-test.true c.loop-turn.invariant in
    first_of (search rules, grind (arith, common_steps))

pub returns-then-not-eat : goal.returns-then-not-eat
unfolding orders_from
returns-then-not-eat c =
    let e = one_more (λ n. orders_from n c.loop-turn.found c.loop-turn.tokens) _ c.loop-turn._turn c.loop-turn-test.true c.loop-turn.invariant in
    first_of (search rules, grind (arith, common_steps))

pub loop-turn-preserved : goal.loop-turn-preserved
unfolding orders_from
loop-turn-preserved c =
    let e = one_more (λ n. orders_from n c.loop-turn.found c.loop-turn.tokens) _ c.loop-turn._turn c.loop-turn-test.true c.loop-turn.invariant in
    first_of (search rules, grind (arith, common_steps))

pub returns : goal.returns
unfolding orders_from
returns c =
    let e = no_more (λ n. orders_from n c.loop-turn.found c.loop-turn.tokens) _ c.loop-turn._turn c.loop-turn-test.false c.loop-turn.invariant in
    first_of (search rules, grind (arith, common_steps))
