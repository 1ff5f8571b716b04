-- What each aggregate makes of the values of its expression, a value for each row, in order.
use Rattle.std.specs.Prelude.{ℤ, pos, ◌+ℤ◌, List, [], ◌∷◌, length, map}
use Rattle.std.specs.List.{filter, filter_map, fold}
use Rattle.n1ql_value.specs.declared.datum.Datum.{Datum}
use Rattle.n1ql_value.specs.declared.value.Value.{Value}
use Rattle.n1ql_value.specs.declared.value.Value.TheVariants.{Null, Int, Array}
use Rattle.n1ql_value.specs.Arithmetic.{number_of}
use Rattle.n1ql_value.specs.Collation.{value_cmp}
use Rattle.n1ql_value.specs.Datum.{datum_of}
use Rattle.n1ql_value.specs.FunctionValues.{topmost_valued}
use Rattle.n1ql_value.specs.Kinds.{is_valued, number_in}
use Rattle.n1ql_ast.specs.declared.agg.Agg.{Agg}
use Rattle.n1ql_ast.specs.declared.agg.Agg.TheVariants.{CountAll, Count, Sum, Min, Max, ArrayAgg}
use Rattle.n1ql_ast.specs.Evaluation.{elements_given}

-- the sum of numbers: NULL of none, and outside 64 bits
abbrev pub sum_of : List ℤ → Value
sum_of [] = Null
sum_of (z ∷ zs) = number_of (fold ◌+ℤ◌ z zs)

-- the elements as an array, NULL of none
abbrev pub list_of : List Datum → Value
list_of [] = Null
list_of (d ∷ ds) = Array (d ∷ ds)

-- COUNT(*) counts the rows. The others pass over MISSING, and all but ARRAY_AGG over NULL too, SUM over all but numbers. MIN, MAX,
-- SUM and ARRAY_AGG are NULL where nothing is left.
abbrev pub aggregate_of : Agg → List Value → Value
aggregate_of CountAll vs = Int (pos (length vs))
aggregate_of Count vs = Int (pos (length (filter is_valued vs)))
aggregate_of Sum vs = sum_of (filter_map number_in vs)
aggregate_of Min vs = topmost_valued (λ d e. value_cmp e d) (map datum_of vs)
aggregate_of Max vs = topmost_valued value_cmp (map datum_of vs)
aggregate_of ArrayAgg vs = list_of (elements_given vs)
