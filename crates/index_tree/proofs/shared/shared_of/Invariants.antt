use Rattle.std.proofs.Common.{◌≡◌}
use Rattle.index_tree.specs.inner.Shared.{rows_in}
use Rattle.index_tree.proofs.shared.shared_of.Given as goal

abbrev pub invariant-loop-row : goal.invariant-loop-row
invariant-loop-row l = rows_in l.shared.items ≡ l.yielded
