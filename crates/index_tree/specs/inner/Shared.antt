-- The rows behind a list of shared ones.
use Rattle.std.specs.Prelude.{◌≡◌, ℕ, true, false, List, map}
use Rattle.std.specs.Arc.{arc_value}
use Rattle.std.specs.List.Sorted.{IsPartitionPoint}
use Rattle.std.specs.Ordering.{is_lt}
use Rattle.std.specs.declared.sync.Arc.{Arc}
use Rattle.std.specs.declared.alloc.Global.{Global}
use Rattle.n1ql_value.specs.declared.row.Row.{Row}
use Rattle.n1ql_value.specs.Collation.{row_cmp}

abbrev pub rows_in : List (Arc Row Global) → List Row
rows_in shared = map arc_value shared

-- the first i of the shared rows are below the row, and the rest aren't
abbrev pub IsLowerBound : List (Arc Row Global) → Row → ℕ → Type 0
IsLowerBound shared row i =
    IsPartitionPoint (λ held. is_lt (row_cmp held row) ≡ true) (λ held. is_lt (row_cmp held row) ≡ false) (rows_in shared) i
