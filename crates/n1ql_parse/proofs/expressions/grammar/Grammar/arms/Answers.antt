use Rattle.std.proofs.Common.{rules, arith}
use Rattle.std.proofs.lemmas.Grind.{common_steps}
use Rattle.n1ql_parse.specs.inner.Parser.{at, arms, arms_from}
use Rattle.n1ql_parse.proofs.Turns.{one_more, no_more}
use Rattle.n1ql_parse.proofs.expressions.grammar.Grammar.arms.Goals as goal

pub loop-turn-init : goal.loop-turn-init
unfolding arms
loop-turn-init g c = first_of (search rules, grind (arith, common_steps))

pub returns-in_err-found : goal.returns-in_err-found
unfolding arms_from
returns-in_err-found g c =
    let e = one_more (λ n. arms_from (at c.args.self.now.fuel) c.args.self.now.agg n c.loop-turn.found c.loop-turn.tokens) _ c.loop-turn._turn c.loop-turn-test.true c.loop-turn.invariant in
    first_of (search rules, grind (arith, common_steps))

pub returns-then-not-eat : goal.returns-then-not-eat
unfolding arms_from
returns-then-not-eat g c =
    let e = one_more (λ n. arms_from (at c.args.self.now.fuel) c.args.self.now.agg n c.loop-turn.found c.loop-turn.tokens) _ c.loop-turn._turn c.loop-turn-test.true c.loop-turn.invariant in
    first_of (search rules, grind (arith, common_steps))

pub loop-turn-preserved : goal.loop-turn-preserved
unfolding arms_from
loop-turn-preserved g c =
    let e = one_more (λ n. arms_from (at c.args.self.now.fuel) c.args.self.now.agg n c.loop-turn.found c.loop-turn.tokens) _ c.loop-turn._turn c.loop-turn-test.true c.loop-turn.invariant in
    first_of (search rules, grind (arith, common_steps))

pub returns : goal.returns
unfolding arms_from
returns g c =
    let e = no_more (λ n. arms_from (at c.args.self.now.fuel) c.args.self.now.agg n c.loop-turn.found c.loop-turn.tokens) _ c.loop-turn._turn c.loop-turn-test.false c.loop-turn.invariant in
    first_of (search rules, grind (arith, common_steps))
