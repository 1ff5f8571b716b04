-- What is written is read back.
use Rattle.std.specs.Prelude.{◌≡◌, ◌≤◌, false, Ok}
use Rattle.serde_json.specs.Read.{max_depth}
use Rattle.n1ql_value.specs.declared.datum.Datum.{Datum}
use Rattle.n1ql_value.specs.Depth.{depth}
use Rattle.n1ql_json.specs.Json.{text_of}
use Rattle.n1ql_json.specs.Missing.{has_missing}
use Rattle.n1ql_json.specs.Reads.{read_of}

-- the value's text is read as the value, where MISSING stands nowhere in it and it nests no deeper than a text may
abbrev pub IsReadBack : Datum → Type 0
IsReadBack d = has_missing d ≡ false → depth d ≤ max_depth → read_of (text_of d) ≡ Ok d
