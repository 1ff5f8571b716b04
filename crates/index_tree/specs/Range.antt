-- The part of a list of rows that spans ask for.
use Rattle.std.specs.Prelude.{List, filter}
use Rattle.n1ql_value.specs.declared.range.Range.{Range}
use Rattle.n1ql_value.specs.declared.row.Row.{Row}
use Rattle.n1ql_value.specs.Ranges.{some_span_holds}

-- the rows that some span holds, each as often as it stands, in the same order
abbrev pub rows_within : List (List Range) → List Row → List Row
rows_within spans rows = filter (λ row. some_span_holds spans row.keys) rows
