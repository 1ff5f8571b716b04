use Rattle.std.proofs.Common.{◌≡◌, map, take}
use Rattle.n1ql_spans.specs.RangeAlgebra.{hull}
use Rattle.n1ql_spans.proofs.spans.hulls_of.Given as goal

abbrev pub invariant-loop-list : goal.invariant-loop-list
invariant-loop-list l = l.hulls ≡ map hull (take l.list-index l.lists)
