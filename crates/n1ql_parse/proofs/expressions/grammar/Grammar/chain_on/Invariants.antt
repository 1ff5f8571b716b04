use Rattle.std.proofs.Common.{◌≡◌, ◌-◌}
use Rattle.n1ql_parse.specs.inner.Parser.{at, chain_on, chain_from}
use Rattle.n1ql_parse.proofs.expressions.grammar.Grammar.chain_on.Given as goal

abbrev pub invariant-loop-turn : goal.invariant-loop-turn
invariant-loop-turn g l = chain_on (at l.self.fuel) l.self.agg l.precedence l.fn.x l.fn.tokens ≡ chain_from (at l.self.fuel) l.self.agg l.precedence (l._turn-end - l._turn) l.x l.tokens
