use Rattle.std.proofs.Common.{rules, arith}
use Rattle.std.proofs.lemmas.Grind.{common_steps}
use Rattle.n1ql_parse.specs.inner.Parser.{at, arguments, arguments_from}
use Rattle.n1ql_parse.proofs.Turns.{one_more, no_more}
use Rattle.n1ql_parse.proofs.expressions.grammar.Grammar.arguments.Goals as goal

pub loop-turn-init : goal.loop-turn-init
unfolding arguments
loop-turn-init g c = first_of (search rules, grind (arith, common_steps))

pub returns-in_err-whole : goal.returns-in_err-whole
unfolding arguments_from
returns-in_err-whole g c =
    let e = one_more (λ n. arguments_from (at c.args.self.now.fuel) c.args.self.now.agg c.args.fun n c.loop-turn.found c.loop-turn.tokens) _ c.loop-turn._turn c.loop-turn-test.true c.loop-turn.invariant in
    first_of (search rules, grind (arith, common_steps))

pub returns-in_err-comma_after : goal.returns-in_err-comma_after
unfolding arguments_from
returns-in_err-comma_after g c =
    let e = one_more (λ n. arguments_from (at c.args.self.now.fuel) c.args.self.now.agg c.args.fun n c.loop-turn.found c.loop-turn.tokens) _ c.loop-turn._turn c.loop-turn-test.true c.loop-turn.invariant in
    first_of (search rules, grind (arith, common_steps))

pub returns-then-not-branch : goal.returns-then-not-branch
unfolding arguments_from
returns-then-not-branch g c =
    let e = one_more (λ n. arguments_from (at c.args.self.now.fuel) c.args.self.now.agg c.args.fun n c.loop-turn.found c.loop-turn.tokens) _ c.loop-turn._turn c.loop-turn-test.true c.loop-turn.invariant in
    first_of (search rules, grind (arith, common_steps))

pub loop-turn-preserved : goal.loop-turn-preserved
unfolding arguments_from
loop-turn-preserved g c =
    let e = one_more (λ n. arguments_from (at c.args.self.now.fuel) c.args.self.now.agg c.args.fun n c.loop-turn.found c.loop-turn.tokens) _ c.loop-turn._turn c.loop-turn-test.true c.loop-turn.invariant in
    first_of (search rules, grind (arith, common_steps))

pub returns : goal.returns
unfolding arguments_from
returns g c =
    let e = no_more (λ n. arguments_from (at c.args.self.now.fuel) c.args.self.now.agg c.args.fun n c.loop-turn.found c.loop-turn.tokens) _ c.loop-turn._turn c.loop-turn-test.false c.loop-turn.invariant in
    first_of (search rules, grind (arith, common_steps))
