use Rattle.std.proofs.Common.{◌≡◌}
use Rattle.n1ql_value.specs.Collation.{row_cmp}
use Rattle.key_eval.specs.Neighbours.{neighbours_once}
use Rattle.key_eval.proofs.order.once.Given as goal

abbrev pub invariant-loop-row : goal.invariant-loop-row
invariant-loop-row l = l.kept.items ≡ neighbours_once row_cmp l.yielded
