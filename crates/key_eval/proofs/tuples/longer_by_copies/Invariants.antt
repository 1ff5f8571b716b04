use Rattle.std.proofs.Common.{◌≡◌, map}
use Rattle.n1ql_value.specs.Datum.{datum_of}
use Rattle.key_eval.specs.Tuples.{extended}
use Rattle.key_eval.proofs.tuples.longer_by_copies.Given as goal

abbrev pub invariant-loop-tuple : goal.invariant-loop-tuple
invariant-loop-tuple l = l.made.items ≡ extended l.yielded (map datum_of l.values)
