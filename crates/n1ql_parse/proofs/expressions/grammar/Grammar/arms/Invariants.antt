use Rattle.std.proofs.Common.{◌≡◌, ◌-◌}
use Rattle.n1ql_parse.specs.inner.Parser.{at, arms, arms_from}
use Rattle.n1ql_parse.proofs.expressions.grammar.Grammar.arms.Given as goal

abbrev pub invariant-loop-turn : goal.invariant-loop-turn
invariant-loop-turn g l = arms (at l.self.fuel) l.self.agg l.fn.tokens ≡ arms_from (at l.self.fuel) l.self.agg (l._turn-end - l._turn) l.found l.tokens
