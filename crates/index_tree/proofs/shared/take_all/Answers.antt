use Rattle.std.proofs.Common.{◌<◌, ◌∙◌, length, arith, rules}
use Rattle.index_tree.proofs.PlaceLemmas.{take_more_out}
use Rattle.index_tree.proofs.shared.take_all.Goals as goal

pub loop-row-preserved : goal.loop-row-preserved
loop-row-preserved c =
    let within : c.loop-row.row-index < length c.args.out.now = search rules in
    (take_more_out c.args.out.now c.loop-row.row-index _ _ _ _ _ within c.row-item.is c.deref.ensures c.loop-row.invariant.0 c.take_out.ensures.rows, c.take_out.ensures.sorted, c.take_out.ensures.capacity ∙ c.loop-row.invariant.2, omega arith)
