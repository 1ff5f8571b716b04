-- What a name before a bracket calls, without regard to case. A name in backquotes calls nothing.
use Rattle.std.specs.Prelude.{ℕ, List, [], ◌∷◌, Option, Some, None, codes, find, if◌then◌else◌}
use Rattle.std.specs.Str.{str_eq_ignore_ascii_case}
use Rattle.n1ql_value.specs.declared.fun.Fun.{Fun}
use Rattle.n1ql_value.specs.Functions.{function_of}
use Rattle.n1ql_ast.specs.declared.agg.Agg.{Agg}
use Rattle.n1ql_ast.specs.declared.agg.Agg.TheVariants.{CountAll, Count, Sum, Min, Max, ArrayAgg}
use Rattle.n1ql_ast.specs.declared.callee.Callee.{Callee}
use Rattle.n1ql_ast.specs.declared.callee.Callee.TheVariants.{Function, Aggregate, Meta, Nothing}

-- the name of an aggregate, in capitals
abbrev pub aggregate_name : Agg → List ℕ
aggregate_name CountAll = codes "COUNT"
aggregate_name Count = codes "COUNT"
aggregate_name Sum = codes "SUM"
aggregate_name Min = codes "MIN"
aggregate_name Max = codes "MAX"
aggregate_name ArrayAgg = codes "ARRAY_AGG"

-- the aggregates of one expression
abbrev pub aggregates : List Agg
aggregates = Count ∷ Sum ∷ Min ∷ Max ∷ ArrayAgg ∷ []

unfoldable pub aggregate_of : List ℕ → Option Agg
aggregate_of name = find (λ agg. str_eq_ignore_ascii_case name (aggregate_name agg)) aggregates

abbrev pub called_function : Option Fun → Callee
called_function (Some fun) = Function fun
called_function None = Nothing

abbrev pub called_aggregate : Option Agg → Callee → Callee
called_aggregate (Some agg) other = Aggregate agg
called_aggregate None other = other

-- what a name without backquotes calls
unfoldable pub callee_of : List ℕ → Callee
callee_of name =
    if str_eq_ignore_ascii_case name (codes "META") then Meta
    else called_aggregate (aggregate_of name) (called_function (function_of name))
