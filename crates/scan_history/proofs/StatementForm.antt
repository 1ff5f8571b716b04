-- The statement that begins the told history: an index called ix on one field of the keyspace ks, a letter from a to z.
use Rattle.std.specs.Prelude.{ℕ, ◌&&◌, false, List, [], ◌∷◌, codes, Option, Some, None, slice_index, slice_set, nat_le, if◌then◌else◌}
use Rattle.std.specs.Option.{option_map}
use Rattle.std.specs.Str.{bytes_eq}
use Rattle.n1ql_ast.specs.declared.expr.Expr.TheVariants.{Doc, Field}
use Rattle.n1ql_ast.specs.declared.key.Key.TheVariants.{Plain}
use Rattle.index_def.specs.declared.definition.IndexDef.{IndexDef}

-- the statement on a field
abbrev pub statement_on : ℕ → List ℕ
statement_on letter = slice_set (codes "CREATE INDEX ix ON ks(_)") 22 letter

-- the field that a text defines the index on
abbrev pub defined_field : List ℕ → Option ℕ
defined_field text =
    let letter = slice_index text 22 in
    if nat_le 97 letter && nat_le letter 122 && bytes_eq text (statement_on letter) then Some letter else None

-- the name of that index
abbrev pub index_name : List ℕ
index_name = codes "ix"

-- its definition: the one key is the field
abbrev pub definition_on : ℕ → IndexDef
definition_on letter = record { name = index_name; keys = Plain (Field Doc (letter ∷ [])) ∷ []; filter = []; primary = false }
