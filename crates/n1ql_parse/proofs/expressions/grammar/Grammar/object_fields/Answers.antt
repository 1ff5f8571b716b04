use Rattle.std.proofs.Common.{rules, arith}
use Rattle.std.proofs.lemmas.Grind.{common_steps}
use Rattle.n1ql_parse.specs.inner.Parser.{at, object_fields, object_fields_from}
use Rattle.n1ql_parse.proofs.Turns.{one_more, no_more}
use Rattle.n1ql_parse.proofs.expressions.grammar.Grammar.object_fields.Goals as goal

pub loop-turn-init : goal.loop-turn-init
unfolding object_fields
loop-turn-init g c = first_of (search rules, grind (arith, common_steps))

pub returns-in_err-found : goal.returns-in_err-found
unfolding object_fields_from
returns-in_err-found g c =
    let e = one_more (λ n. object_fields_from (at c.args.self.now.fuel) c.args.self.now.agg n c.loop-turn.found c.loop-turn.tokens) _ c.loop-turn._turn c.loop-turn-test.true c.loop-turn.invariant in
    first_of (search rules, grind (arith, common_steps))

pub returns-then-not-eat : goal.returns-then-not-eat
unfolding object_fields_from
returns-then-not-eat g c =
    let e = one_more (λ n. object_fields_from (at c.args.self.now.fuel) c.args.self.now.agg n c.loop-turn.found c.loop-turn.tokens) _ c.loop-turn._turn c.loop-turn-test.true c.loop-turn.invariant in
    first_of (search rules, grind (arith, common_steps))

pub loop-turn-preserved : goal.loop-turn-preserved
unfolding object_fields_from
loop-turn-preserved g c =
    let e = one_more (λ n. object_fields_from (at c.args.self.now.fuel) c.args.self.now.agg n c.loop-turn.found c.loop-turn.tokens) _ c.loop-turn._turn c.loop-turn-test.true c.loop-turn.invariant in
    first_of (search rules, grind (arith, common_steps))

pub returns : goal.returns
unfolding object_fields_from
returns g c =
    let e = no_more (λ n. object_fields_from (at c.args.self.now.fuel) c.args.self.now.agg n c.loop-turn.found c.loop-turn.tokens) _ c.loop-turn._turn c.loop-turn-test.false c.loop-turn.invariant in
    first_of (search rules, grind (arith, common_steps))
