-- Documents by their ids, and the rows that they have in an index.
use Rattle.std.specs.Prelude.{ℕ, List}
use Rattle.std.specs.List.{flat_map}
use Rattle.std.specs.Ordering.{nat_cmp}
use Rattle.std.specs.Cmp.Lexicographic.{slice_cmp}
use Rattle.std.specs.FinMap as map
use Rattle.n1ql_value.specs.declared.row.Row.{Row}
use Rattle.n1ql_value.specs.declared.value.Value.{Value}
use Rattle.n1ql_value.specs.Collation.{row_cmp}
use Rattle.sorted_lists.specs.SortedLists.{sort_of}

-- documents by their ids, in byte order
abbrev pub Documents : Type 0
Documents = map.FinMap (slice_cmp nat_cmp) Value

-- the rows of all documents, in order, repeats kept; `keys` gives the rows of one
abbrev pub index_by : (List ℕ → Value → List Row) → Documents → List Row
index_by keys docs = sort_of row_cmp (flat_map (λ e. keys e.0 e.1) (map.entries docs))
