use Rattle.std.proofs.Common.{◌≡◌, take}
use Rattle.std.specs.List.{fold}
use Rattle.n1ql_spans.specs.RangeAlgebra.{around}
use Rattle.n1ql_spans.proofs.range_algebra.hull_from.Given as goal

abbrev pub invariant-loop-r : goal.invariant-loop-r
invariant-loop-r l = l.hull ≡ fold around l.fn.first (take l.r-index l.rest)
