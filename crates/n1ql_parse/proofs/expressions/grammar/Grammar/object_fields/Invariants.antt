use Rattle.std.proofs.Common.{◌≡◌, ◌-◌}
use Rattle.n1ql_parse.specs.inner.Parser.{at, object_fields, object_fields_from}
use Rattle.n1ql_parse.proofs.expressions.grammar.Grammar.object_fields.Given as goal

abbrev pub invariant-loop-turn : goal.invariant-loop-turn
invariant-loop-turn g l = object_fields (at l.self.fuel) l.self.agg l.fn.tokens ≡ object_fields_from (at l.self.fuel) l.self.agg (l._turn-end - l._turn) l.found l.tokens
