use Rattle.std.proofs.Common.{◌≡◌, take}
use Rattle.n1ql_expr.proofs.equality.+equality.Given as goal

abbrev pub invariant-same_all-loop-at : goal.invariant-same_all-loop-at
invariant-same_all-loop-at l = take l.at l.a ≡ take l.at l.b
