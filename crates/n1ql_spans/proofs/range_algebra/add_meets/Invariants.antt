use Rattle.std.proofs.Common.{◌≡◌, ◌++◌, map, not, take}
use Rattle.std.specs.List.{filter}
use Rattle.n1ql_spans.specs.RangeAlgebra.{is_empty, meet}
use Rattle.n1ql_spans.proofs.range_algebra.add_meets.Given as goal

abbrev pub invariant-loop-s : goal.invariant-loop-s
invariant-loop-s l = l.kept ≡ l.fn.kept ++ filter (λ q. not (is_empty q)) (map (meet l.r) (take l.s-index l.ss))
