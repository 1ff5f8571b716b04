use Rattle.std.proofs.Common.{◌≡◌, take}
use Rattle.n1ql_expr.proofs.key_copies.copy_keys.Given as goal

abbrev pub invariant-loop-key : goal.invariant-loop-key
invariant-loop-key l = l.made ≡ take l.key-index l.key-items
