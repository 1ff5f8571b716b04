use Rattle.std.proofs.Common.{rules, arith}
use Rattle.std.proofs.lemmas.Grind.{common_steps}
use Rattle.n1ql_parse.specs.inner.Queries.{terms, terms_from}
use Rattle.n1ql_parse.proofs.Turns.{one_more, no_more}
use Rattle.n1ql_parse.proofs.queries.terms.terms.Goals as goal

pub loop-turn-init : goal.loop-turn-init
unfolding terms
loop-turn-init c = first_of (search rules, grind (arith, common_steps))

pub returns-in_err-term : goal.returns-in_err-term
unfolding terms_from
returns-in_err-term c =
    let e = one_more (λ n. terms_from n c.loop-turn.found c.loop-turn.tokens) _ c.loop-turn._turn c.loop-turn-test.true c.loop-turn.invariant in
    first_of (search rules, grind (arith, common_steps))

pub returns-then-not-eat : goal.returns-then-not-eat
unfolding terms_from
returns-then-not-eat c =
    let e = one_more (λ n. terms_from n c.loop-turn.found c.loop-turn.tokens) _ c.loop-turn._turn c.loop-turn-test.true c.loop-turn.invariant in
    first_of (search rules, grind (arith, common_steps))

pub loop-turn-preserved : goal.loop-turn-preserved
unfolding terms_from
loop-turn-preserved c =
    let e = one_more (λ n. terms_from n c.loop-turn.found c.loop-turn.tokens) _ c.loop-turn._turn c.loop-turn-test.true c.loop-turn.invariant in
    first_of (search rules, grind (arith, common_steps))

pub returns : goal.returns
unfolding terms_from
returns c =
    let e = no_more (λ n. terms_from n c.loop-turn.found c.loop-turn.tokens) _ c.loop-turn._turn c.loop-turn-test.false c.loop-turn.invariant in
    first_of (search rules, grind (arith, common_steps))
