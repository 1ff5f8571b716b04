use Rattle.std.proofs.Common.{◌≡◌, map, take}
use Rattle.n1ql_covered.specs.OverKeys.{over_term}
use Rattle.n1ql_covered.proofs.statements.over_terms.Given as goal

abbrev pub invariant-loop-term : goal.invariant-loop-term
invariant-loop-term l = l.made ≡ map (over_term l.keys) (take l.term-index l.terms)
