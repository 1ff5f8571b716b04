use Rattle.std.proofs.Common.{◌≡◌, drop}
use Rattle.n1ql_value.specs.Collation.{keys_cmp}
use Rattle.n1ql_value.proofs.collation.collate_keys.Given as goal

abbrev pub invariant-loop-place : goal.invariant-loop-place
invariant-loop-place l = keys_cmp (drop l.place l.a) (drop l.place l.b) ≡ keys_cmp l.a l.b
