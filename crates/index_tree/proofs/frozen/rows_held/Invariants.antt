use Rattle.std.proofs.Common.{◌≡◌, take}
use Rattle.index_tree.specs.inner.Shared.{rows_in}
use Rattle.index_tree.specs.Range.{rows_within}
use Rattle.index_tree.proofs.frozen.rows_held.Given as goal

abbrev pub invariant-loop-row : goal.invariant-loop-row
invariant-loop-row l = l.held ≡ rows_within l.spans (rows_in (take l.row-index l.rows))
