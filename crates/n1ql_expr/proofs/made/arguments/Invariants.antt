use Rattle.std.proofs.Common.{◌≡◌, map}
use Rattle.n1ql_value.specs.Datum.{datum_of}
use Rattle.n1ql_expr.proofs.made.arguments.Given as goal

abbrev pub invariant-loop-value : goal.invariant-loop-value
invariant-loop-value l = l.made ≡ map datum_of l.yielded
