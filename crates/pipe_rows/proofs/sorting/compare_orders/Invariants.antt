use Rattle.std.proofs.Common.{◌≡◌, drop}
use Rattle.n1ql_meaning.specs.Finish.{orders_cmp}
use Rattle.pipe_rows.proofs.sorting.compare_orders.Given as goal

abbrev pub invariant-loop-at : goal.invariant-loop-at
invariant-loop-at l = orders_cmp (drop l.at l.orders) (drop l.at l.a) (drop l.at l.b) ≡ orders_cmp l.orders l.a l.b
