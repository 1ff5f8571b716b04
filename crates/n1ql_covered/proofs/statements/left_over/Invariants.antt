use Rattle.std.proofs.Common.{◌≡◌, drop, map}
use Rattle.std.specs.List.{fold}
use Rattle.n1ql_spans.specs.Covering.{over_keys, rest_of}
use Rattle.n1ql_covered.specs.OverKeys.{and_with, left_over}
use Rattle.n1ql_covered.proofs.statements.left_over.Given as goal

abbrev pub invariant-loop-c : goal.invariant-loop-c
invariant-loop-c l = left_over l.keys l.filter l.conjuncts ≡ fold and_with l.left (map (over_keys l.keys) (rest_of l.filter (drop l.c-index l.conjuncts)))
