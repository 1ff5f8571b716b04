use Rattle.std.proofs.Common.{◌≡◌, ◌-◌}
use Rattle.n1ql_parse.specs.inner.Parser.{at, path_on, path_from}
use Rattle.n1ql_parse.proofs.expressions.grammar.Grammar.path_on.Given as goal

abbrev pub invariant-loop-turn : goal.invariant-loop-turn
invariant-loop-turn g l = path_on (at l.self.fuel) l.self.agg l.fn.x l.fn.tokens ≡ path_from (at l.self.fuel) l.self.agg (l._turn-end - l._turn) l.x l.tokens
