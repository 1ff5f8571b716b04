use Rattle.std.proofs.Common.{◌≡◌, map, take}
use Rattle.n1ql_ast.specs.ResolvedSelections.{order_in}
use Rattle.n1ql_ast.proofs.select_resolution.resolve_orders.Given as goal

abbrev pub invariant-loop-order : goal.invariant-loop-order
invariant-loop-order l = record {
  orders : l.orders ≡ map (order_in l.fn.scope) (take l.order-index l.unresolved);
  scope : l.scope ≡ l.fn.scope;
}
