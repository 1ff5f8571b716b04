use Rattle.std.proofs.Common.{◌≡◌, map, take}
use Rattle.n1ql_spans.specs.Covering.{over_keys}
use Rattle.n1ql_covered.proofs.expressions.+over.Given as goal

abbrev pub invariant-list-loop-e : goal.invariant-list-loop-e
invariant-list-loop-e l = l.made ≡ map (over_keys l.keys) (take l.e-index l.e-items)
