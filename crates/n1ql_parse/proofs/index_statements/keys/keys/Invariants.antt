use Rattle.std.proofs.Common.{◌≡◌, ◌-◌}
use Rattle.n1ql_parse.specs.inner.Statements.{keys, keys_from}
use Rattle.n1ql_parse.proofs.index_statements.keys.keys.Given as goal

abbrev pub invariant-loop-turn : goal.invariant-loop-turn
invariant-loop-turn l = keys l.keyspace l.fn.tokens ≡ keys_from l.keyspace (l._turn-end - l._turn) l.found l.tokens
