use Rattle.std.proofs.Common.{rules, arith}
use Rattle.std.proofs.lemmas.Grind.{common_steps}
use Rattle.n1ql_parse.specs.inner.Parser.{at, path_on, path_from}
use Rattle.n1ql_parse.proofs.Turns.{one_more, no_more}
use Rattle.n1ql_parse.proofs.expressions.grammar.Grammar.path_on.Goals as goal

pub loop-turn-init : goal.loop-turn-init
unfolding path_on
loop-turn-init g c = first_of (search rules, grind (arith, common_steps))

pub returns-in_err-x : goal.returns-in_err-x
unfolding path_from
returns-in_err-x g c =
    let e = one_more (λ n. path_from (at c.args.self.now.fuel) c.args.self.now.agg n c.loop-turn.x c.loop-turn.tokens) _ c.loop-turn._turn c.loop-turn-test.true c.loop-turn.invariant in
    first_of (search rules, grind (arith, common_steps))

pub returns-in_err-x-2 : goal.returns-in_err-x-2
unfolding path_from
returns-in_err-x-2 g c =
    let e = one_more (λ n. path_from (at c.args.self.now.fuel) c.args.self.now.agg n c.loop-turn.x c.loop-turn.tokens) _ c.loop-turn._turn c.loop-turn-test.true c.loop-turn.invariant in
    first_of (search rules, grind (arith, common_steps))

pub returns-else-eat-2 : goal.returns-else-eat-2
unfolding path_from
returns-else-eat-2 g c =
    let e = one_more (λ n. path_from (at c.args.self.now.fuel) c.args.self.now.agg n c.loop-turn.x c.loop-turn.tokens) _ c.loop-turn._turn c.loop-turn-test.true c.loop-turn.invariant in
    first_of (search rules, grind (arith, common_steps))

pub loop-turn-preserved : goal.loop-turn-preserved
unfolding path_from
loop-turn-preserved g c =
    let e = one_more (λ n. path_from (at c.args.self.now.fuel) c.args.self.now.agg n c.loop-turn.x c.loop-turn.tokens) _ c.loop-turn._turn c.loop-turn-test.true c.loop-turn.invariant in
    first_of (search rules, grind (arith, common_steps))

pub returns : goal.returns
unfolding path_from
returns g c =
    let e = no_more (λ n. path_from (at c.args.self.now.fuel) c.args.self.now.agg n c.loop-turn.x c.loop-turn.tokens) _ c.loop-turn._turn c.loop-turn-test.false c.loop-turn.invariant in
    first_of (search rules, grind (arith, common_steps))
