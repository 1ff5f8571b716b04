use Rattle.std.proofs.Common.{◌≡◌, [], ◌∷◌, take}
use Rattle.std.specs.List.{fold}
use Rattle.n1ql_spans.specs.RangeAlgebra.{free, meets}
use Rattle.n1ql_spans.proofs.spans.in_all.Given as goal

abbrev pub invariant-loop-more : goal.invariant-loop-more
invariant-loop-more l = l.found ≡ fold meets (free ∷ []) (take l.more-index l.bounds)
