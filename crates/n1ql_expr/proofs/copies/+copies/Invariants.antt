use Rattle.std.proofs.Common.{◌≡◌, take}
use Rattle.n1ql_expr.proofs.copies.+copies.Given as goal

abbrev pub invariant-list-loop-e : goal.invariant-list-loop-e
invariant-list-loop-e l = l.made ≡ take l.e-index l.e-items
