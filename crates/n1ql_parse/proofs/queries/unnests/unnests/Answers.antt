use Rattle.std.proofs.Common.{rules, arith}
use Rattle.std.proofs.lemmas.Grind.{common_steps}
use Rattle.n1ql_parse.specs.inner.Queries.{unnests, unnests_from}
use Rattle.n1ql_parse.proofs.Turns.{one_more, no_more}
use Rattle.n1ql_parse.proofs.queries.unnests.unnests.Goals as goal

pub loop-turn-init : goal.loop-turn-init
unfolding unnests
loop-turn-init c = first_of (search rules, grind (arith, common_steps))

pub returns-in_err-left_unnest : goal.returns-in_err-left_unnest
unfolding unnests_from
returns-in_err-left_unnest c =
    let e = one_more (λ n. unnests_from n c.loop-turn.found c.loop-turn.tokens) _ c.loop-turn._turn c.loop-turn-test.true c.loop-turn.invariant in
    first_of (search rules, grind (arith, common_steps))

pub returns-in_err-unnest : goal.returns-in_err-unnest
unfolding unnests_from
returns-in_err-unnest c =
    let e = one_more (λ n. unnests_from n c.loop-turn.found c.loop-turn.tokens) _ c.loop-turn._turn c.loop-turn-test.true c.loop-turn.invariant in
    first_of (search rules, grind (arith, common_steps))

pub returns-else-eat-2 : goal.returns-else-eat-2
unfolding unnests_from
returns-else-eat-2 c =
    let e = one_more (λ n. unnests_from n c.loop-turn.found c.loop-turn.tokens) _ c.loop-turn._turn c.loop-turn-test.true c.loop-turn.invariant in
    first_of (search rules, grind (arith, common_steps))

pub loop-turn-preserved : goal.loop-turn-preserved
unfolding unnests_from
loop-turn-preserved c =
    let e = one_more (λ n. unnests_from n c.loop-turn.found c.loop-turn.tokens) _ c.loop-turn._turn c.loop-turn-test.true c.loop-turn.invariant in
    first_of (search rules, grind (arith, common_steps))

pub returns : goal.returns
unfolding unnests_from
returns c =
    let e = no_more (λ n. unnests_from n c.loop-turn.found c.loop-turn.tokens) _ c.loop-turn._turn c.loop-turn-test.false c.loop-turn.invariant in
    first_of (search rules, grind (arith, common_steps))
