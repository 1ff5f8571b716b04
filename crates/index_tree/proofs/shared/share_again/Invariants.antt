use Rattle.std.proofs.Common.{◌≡◌, take}
use Rattle.index_tree.specs.inner.Shared.{rows_in}
use Rattle.index_tree.proofs.shared.share_again.Given as goal

abbrev pub invariant-loop-row : goal.invariant-loop-row
invariant-loop-row l = rows_in l.shared.items ≡ rows_in (take l.row-index l.rows)
