use Rattle.std.proofs.Common.{◌≡◌, ◌-◌}
use Rattle.n1ql_parse.specs.inner.Queries.{orders, orders_from}
use Rattle.n1ql_parse.proofs.queries.orders.orders.Given as goal

abbrev pub invariant-loop-turn : goal.invariant-loop-turn
invariant-loop-turn l = orders l.fn.tokens ≡ orders_from (l._turn-end - l._turn) l.found l.tokens
