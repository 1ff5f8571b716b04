use Rattle.std.proofs.Common.{◌≡◌, map, take}
use Rattle.std.specs.Borrow.{Bor}
use Rattle.n1ql_ast.specs.declared.expr.Expr.{Expr}
use Rattle.n1ql_meaning.specs.OrderKeys.{order_key}
use Rattle.pipe_rows.proofs.ordering.order_keys.Given as goal

abbrev pub invariant-loop-order : goal.invariant-loop-order
invariant-loop-order l = map (λ (key : Bor Expr). key.now) l.keys.items ≡ map (order_key l.q) (take l.order-index l.q.orders)
