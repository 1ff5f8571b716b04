use Rattle.std.proofs.Common.{◌≡◌, ap, arith}
use Rattle.n1ql_parse.specs.inner.Parser.{at}
use Rattle.n1ql_parse.proofs.Turns.{deeper}
use Rattle.n1ql_parse.proofs.expressions.grammar.+expr_at.Goals as goal

pub returns-then-fuel-eq0 : goal.returns-then-fuel-eq0
unfolding at
returns-then-fuel-eq0 t c = let none : c.args.fuel ≡ 0 = omega arith in rw c.fault.ensures (ap (λ n. at n c.args.agg c.args.precedence c.args.tokens.now) none)

pub returns : goal.returns
unfolding at
returns t c = rw (deeper (λ n. at n c.args.agg c.args.precedence c.args.tokens.now) c.args.fuel (omega arith)) c.rule.ensures
