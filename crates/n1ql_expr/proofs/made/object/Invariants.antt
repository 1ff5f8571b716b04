use Rattle.std.proofs.Common.{◌≡◌, ◌+◌, [], length, map, take}
use Rattle.std.specs.List.{fold, zip}
use Rattle.std.specs.Vec.Iter.{into_iter_items}
use Rattle.n1ql_value.specs.Constructors.{with_given}
use Rattle.n1ql_value.specs.Datum.{datum_of}
use Rattle.n1ql_expr.proofs.made.object.Given as goal

abbrev pub invariant-loop-value : goal.invariant-loop-value
invariant-loop-value l = (l.at ≡ length l.yielded) × (l.made ≡ fold with_given [] (zip (take l.at l.names) (map datum_of l.yielded))) × (l.at + length (into_iter_items l.value-iterator) ≡ length l.names)
