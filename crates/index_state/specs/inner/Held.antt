-- How a state holds the rows of each id.
use Rattle.std.specs.Prelude.{ℕ, ◌+◌, Bool, true, false, not, List, [], ◌∷◌, length, IsSome}
use Rattle.std.specs.List.{filter}
use Rattle.std.specs.Ordering.{nat_cmp}
use Rattle.std.specs.Cmp.Lexicographic.{slice_cmp}
use Rattle.std.specs.FinMap as map
use Rattle.std.specs.BTreeMap as tree
use Rattle.std.specs.BTreeMap.{BTreeMap}
use Rattle.n1ql_value.specs.declared.row.Row.{Row}
use Rattle.index_state.specs.declared.change.Change.{Change}
use Rattle.index_state.specs.declared.put.Put.{Put}
use Rattle.index_state.specs.RowsById.{RowsById}

-- the rows of each id, as a tree map has them
abbrev pub held_by : BTreeMap (List ℕ) (List Row) → RowsById
held_by by_id = map.from_entries by_id.entries

-- the tree map has the id
abbrev pub Has : BTreeMap (List ℕ) (List Row) → List ℕ → Type 0
Has by_id id = IsSome (tree.get (slice_cmp nat_cmp) by_id id)

abbrev pub is_empty : {X : Type 0} → List X → Bool
is_empty [] = true
is_empty (x ∷ xs) = false

-- the entries whose lists aren't empty
abbrev pub full : {K X : Type 0} → List (K × List X) → List (K × List X)
full es = filter (λ e. not (is_empty e.1)) es

-- the map without the ids that hold no rows
abbrev pub filled : RowsById → RowsById
filled held = map.from_sorted (full (map.entries held))

-- what a put changes, and how many rows some of them put in
abbrev pub change_of : Put → Change
change_of p = record { id = p.id; rows = p.rows }

abbrev pub count_in : List Put → ℕ
count_in [] = 0
count_in (p ∷ ps) = length p.again + count_in ps
