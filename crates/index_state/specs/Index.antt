-- What an index state holds of documents. `keys` gives the rows of one document.
use Rattle.std.specs.Prelude.{◌≡◌, ℕ, List, []}
use Rattle.std.specs.Option.{option_map_or}
use Rattle.std.specs.FinMap as map
use Rattle.n1ql_value.specs.declared.row.Row.{Row}
use Rattle.n1ql_value.specs.declared.value.Value.{Value}
use Rattle.n1ql_value.specs.Documents.{Documents}
use Rattle.index_state.specs.RowsById.{RowsById, rows_at}

-- the rows of the document under the id, where there is one
abbrev pub keys_at : (List ℕ → Value → List Row) → Documents → List ℕ → List Row
keys_at keys docs id = option_map_or (keys id) (map.get docs id) []

-- each id holds the rows of its document, and no other id holds any
pub record HoldsKeys (keys : List ℕ → Value → List Row) (docs : Documents) (held : RowsById) : Type 0 where
  pub at : (id : List ℕ) → rows_at held id ≡ keys_at keys docs id
