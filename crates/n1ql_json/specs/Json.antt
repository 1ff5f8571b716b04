-- The JSON text of a value.
use Rattle.std.specs.Prelude.{ℕ, List, [], ◌∷◌}
use Rattle.serde_json.specs.Data.{Data, null, boolean, number, string, array, object, Members, no_members, member}
use Rattle.serde_json.specs.Find.{of_integer}
use Rattle.serde_json.specs.View.{items_of}
use Rattle.serde_json.specs.Written.{compact_text}
use Rattle.n1ql_value.specs.declared.datum.Datum.{Datum, fold-Datum}
use Rattle.n1ql_value.specs.declared.datum.Datum.TheOpen.{Datum-F}

-- pairs as the members of an object, in the order in which they stand
abbrev pub members_with : List (List ℕ × Data) → Members
members_with [] = no_members
members_with (p ∷ ps) = member p.0 p.1 (members_with ps)

-- one layer, with all below it as JSON; MISSING is null
abbrev pub json_layer : Datum-F Data → Data
json_layer Datum-F.Missing = null
json_layer Datum-F.Null = null
json_layer (Datum-F.Bool b) = boolean b
json_layer (Datum-F.Int z) = number (of_integer z)
json_layer (Datum-F.Text t) = string t
json_layer (Datum-F.Array ds) = array (items_of ds)
json_layer (Datum-F.Object ps) = object (members_with ps)

-- the value as JSON
abbrev pub json_of : Datum → Data
json_of = fold-Datum Data json_layer

-- the value's compact text
abbrev pub text_of : Datum → List ℕ
text_of d = compact_text (json_of d)

-- a pair with its value as JSON
abbrev pub json_pair : List ℕ × Datum → List ℕ × Data
json_pair p = (p.0, json_of p.1)
