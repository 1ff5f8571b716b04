-- Rows as JSON: an object with the id and the keys of each. A key's value v stands as [v], and MISSING as [].
use Rattle.std.specs.Prelude.{ℕ, ◌==◌, List, [], ◌∷◌, map, codes, if◌then◌else◌}
use Rattle.n1ql_value.specs.declared.datum.Datum.{Datum, out-Datum}
use Rattle.n1ql_value.specs.declared.datum.Datum.TheVariants.{Text, Array, Object}
use Rattle.n1ql_value.specs.declared.row.Row.{Row}
use Rattle.n1ql_value.specs.Layers.{class_of}
use Rattle.n1ql_json.specs.Json.{text_of}

abbrev pub key_shown : Datum → Datum
key_shown d = if class_of (out-Datum d) == 0 then Array [] else Array (d ∷ [])

abbrev pub row_shown : Row → Datum
row_shown row = Object ((codes "id", Text row.id) ∷ (codes "keys", Array (map key_shown row.keys)) ∷ [])

-- the text of rows
abbrev pub rows_text : List Row → List ℕ
rows_text rows = text_of (Array (map row_shown rows))
