use Rattle.std.proofs.Common.{◌≡◌, map, take}
use Rattle.n1ql_covered.specs.OverKeys.{over_unnest}
use Rattle.n1ql_covered.proofs.statements.over_unnests.Given as goal

abbrev pub invariant-loop-unnest : goal.invariant-loop-unnest
invariant-loop-unnest l = l.made ≡ map (over_unnest l.keys) (take l.unnest-index l.unnests)
