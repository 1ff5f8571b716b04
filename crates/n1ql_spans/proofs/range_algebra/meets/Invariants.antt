use Rattle.std.proofs.Common.{◌≡◌, take}
use Rattle.n1ql_spans.specs.RangeAlgebra.{meets}
use Rattle.n1ql_spans.proofs.range_algebra.meets.Given as goal

abbrev pub invariant-loop-r : goal.invariant-loop-r
invariant-loop-r l = l.kept ≡ meets (take l.r-index l.rs) l.ss
