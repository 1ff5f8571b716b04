use Rattle.std.proofs.Common.{◌≡◌, map, take}
use Rattle.n1ql_spans.specs.Covering.{over_keys}
use Rattle.n1ql_covered.proofs.statements.over_all.Given as goal

abbrev pub invariant-loop-e : goal.invariant-loop-e
invariant-loop-e l = l.made ≡ map (over_keys l.keys) (take l.e-index l.es)
