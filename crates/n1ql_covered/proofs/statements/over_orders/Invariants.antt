use Rattle.std.proofs.Common.{◌≡◌, map, take}
use Rattle.n1ql_covered.specs.OverKeys.{over_order}
use Rattle.n1ql_covered.proofs.statements.over_orders.Given as goal

abbrev pub invariant-loop-order : goal.invariant-loop-order
invariant-loop-order l = l.made ≡ map (over_order l.keys) (take l.order-index l.orders)
