use Rattle.std.proofs.Common.{◌≡◌, drop}
use Rattle.std.specs.List.{list_all}
use Rattle.n1ql_spans.specs.Covering.{is_covered, plain_keys}
use Rattle.n1ql_meaning.specs.OrderKeys.{order_key}
use Rattle.n1ql_spans.proofs.statement.cover_orders.Given as goal

abbrev pub invariant-loop-order : goal.invariant-loop-order
invariant-loop-order l = list_all (λ o. is_covered (plain_keys l.keys) (order_key l.q o)) (drop l.order-index l.orders) ≡ list_all (λ o. is_covered (plain_keys l.keys) (order_key l.q o)) l.orders
