use Rattle.std.proofs.Common.{◌≡◌, drop, map}
use Rattle.n1ql_value.specs.Datum.{datum_of}
use Rattle.n1ql_value.specs.Comparison.{is_among}
use Rattle.n1ql_funcs.proofs.comparison.is_among.Given as goal

abbrev pub invariant-loop-item : goal.invariant-loop-item
invariant-loop-item l = is_among l.value (map datum_of (drop l.item-index l.items)) ≡ is_among l.value (map datum_of l.items)
