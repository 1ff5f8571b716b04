use Rattle.std.proofs.Common.{◌∙◌, arith}
use Rattle.index_tree.proofs.PlaceLemmas.{put_more}
use Rattle.index_tree.proofs.shared.put_all.Goals as goal

pub loop-row-preserved : goal.loop-row-preserved
loop-row-preserved c =
    let put = rw c.unwrap.ensures at c.put_in.ensures.ok in
    let len = rw c.unwrap.ensures at c.put_in.ensures.len in
    let more = c.put_in.ensures.capacity in
    let before = c.loop-row.invariant in
    (put_more _ _ _ _ _ c.in-Some.ensures.items put ∙ c.loop-row.invariant.0, c.put_in.ensures.sorted, omega (arith, c.in-Some.ensures.len, len), omega (arith, c.in-Some.ensures.len, len), omega arith)
