use Rattle.std.proofs.Common.{◌≡◌, ◌-◌}
use Rattle.n1ql_parse.specs.inner.Queries.{unnests, unnests_from}
use Rattle.n1ql_parse.proofs.queries.unnests.unnests.Given as goal

abbrev pub invariant-loop-turn : goal.invariant-loop-turn
invariant-loop-turn l = unnests l.fn.tokens ≡ unnests_from (l._turn-end - l._turn) l.found l.tokens
