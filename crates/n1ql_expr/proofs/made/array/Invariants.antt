use Rattle.std.proofs.Common.{◌≡◌, map}
use Rattle.n1ql_value.specs.Constructors.{null_for_missing}
use Rattle.n1ql_value.specs.Datum.{datum_of}
use Rattle.n1ql_expr.proofs.made.array.Given as goal

abbrev pub invariant-loop-value : goal.invariant-loop-value
invariant-loop-value l = l.made ≡ map null_for_missing (map datum_of l.yielded)
