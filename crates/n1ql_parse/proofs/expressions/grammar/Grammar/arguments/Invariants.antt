use Rattle.std.proofs.Common.{◌≡◌, ◌-◌}
use Rattle.n1ql_parse.specs.inner.Parser.{at, arguments, arguments_from}
use Rattle.n1ql_parse.proofs.expressions.grammar.Grammar.arguments.Given as goal

abbrev pub invariant-loop-turn : goal.invariant-loop-turn
invariant-loop-turn g l = arguments (at l.self.fuel) l.self.agg l.fun l.fn.tokens ≡ arguments_from (at l.self.fuel) l.self.agg l.fun (l._turn-end - l._turn) l.found l.tokens
