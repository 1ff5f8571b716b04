use Rattle.std.proofs.Common.{◌≡◌, ◌-◌}
use Rattle.n1ql_parse.specs.inner.Queries.{terms, terms_from}
use Rattle.n1ql_parse.proofs.queries.terms.terms.Given as goal

abbrev pub invariant-loop-turn : goal.invariant-loop-turn
invariant-loop-turn l = terms l.fn.tokens ≡ terms_from (l._turn-end - l._turn) l.found l.tokens
