use Rattle.std.proofs.Common.{◌≡◌}
use Rattle.std.specs.Ordering.{on}
use Rattle.n1ql_value.specs.Collation.{value_cmp}
use Rattle.n1ql_value.specs.Datum.{datum_of}
use Rattle.n1ql_spans.specs.inner.Neighbours.{neighbours_once}
use Rattle.n1ql_spans.proofs.distinct.once.Given as goal

abbrev pub invariant-loop-value : goal.invariant-loop-value
invariant-loop-value l = l.kept.items ≡ neighbours_once (on datum_of value_cmp) l.yielded
