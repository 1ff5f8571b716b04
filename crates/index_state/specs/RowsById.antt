-- The rows of each id.
use Rattle.std.specs.Prelude.{ℕ, List, [], ◌∷◌, unwrap_or}
use Rattle.std.specs.List.{flat_map, fold}
use Rattle.std.specs.Ordering.{nat_cmp}
use Rattle.std.specs.Cmp.Lexicographic.{slice_cmp}
use Rattle.std.specs.FinMap as map
use Rattle.n1ql_value.specs.declared.row.Row.{Row}
use Rattle.n1ql_value.specs.Collation.{row_cmp}
use Rattle.sorted_lists.specs.SortedLists.{sort_of}
use Rattle.index_state.specs.declared.change.Change.{Change}

abbrev pub RowsById : Type 0
RowsById = map.FinMap (slice_cmp nat_cmp) (List Row)

-- an id that isn't in the map holds no rows
abbrev pub rows_at : RowsById → List ℕ → List Row
rows_at held id = unwrap_or (map.get held id) []

-- the map with these rows in place of the id's, and without the id where there are none
abbrev pub with_rows : RowsById → List ℕ → List Row → RowsById
with_rows held id [] = map.remove held id
with_rows held id (row ∷ rows) = map.insert held id (row ∷ rows)

-- the map after these changes, one behind the other
abbrev pub with_changes : List Change → RowsById → RowsById
with_changes changes held = fold (λ rows c. with_rows rows c.id c.rows) held changes

-- the rows of all ids, in order
abbrev pub all_rows : RowsById → List Row
all_rows held = sort_of row_cmp (flat_map (λ e. e.1) (map.entries held))
