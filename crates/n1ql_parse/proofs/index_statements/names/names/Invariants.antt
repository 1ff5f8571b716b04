use Rattle.std.proofs.Common.{◌≡◌, ◌-◌}
use Rattle.n1ql_parse.specs.inner.Statements.{names, names_from}
use Rattle.n1ql_parse.proofs.index_statements.names.names.Given as goal

abbrev pub invariant-loop-turn : goal.invariant-loop-turn
invariant-loop-turn l = names l.fn.tokens ≡ names_from (l._turn-end - l._turn) l.found l.tokens
