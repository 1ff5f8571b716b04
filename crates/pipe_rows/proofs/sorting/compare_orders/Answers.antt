use Rattle.pipe_rows.proofs.Orders.{decided, tied}
use Rattle.pipe_rows.proofs.sorting.compare_orders.Goals as goal

pub returns-in_default : goal.returns-in_default
returns-in_default c =
    decided c.args.orders.now c.index-orders-at.result c.args.a.now c.args.b.now c.loop-at.at c.directed.result _ _
    c.index-orders-at.is c.loop-at-test.true c.get_or-x.ensures c.get_or-y.ensures c.directed.ensures c.in_default.not-Equal c.loop-at.invariant

pub loop-at-preserved : goal.loop-at-preserved
loop-at-preserved c =
    tied c.args.orders.now c.index-orders-at.result c.args.a.now c.args.b.now c.loop-at.at c.directed.result _ _
    c.index-orders-at.is c.loop-at-test.true c.get_or-x.ensures c.get_or-y.ensures c.directed.ensures c.in-Equal.is c.loop-at.invariant
