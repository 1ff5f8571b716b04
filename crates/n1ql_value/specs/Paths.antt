-- What stands at a name of an object and at a place of an array, and MISSING where nothing does.
use Rattle.std.specs.Prelude.{ℕ, ℤ, pos, negsuc, List, reverse, Option, slice_get}
use Rattle.std.specs.Option.{option_map}
use Rattle.n1ql_value.specs.declared.datum.Datum.{Datum}
use Rattle.n1ql_value.specs.declared.value.Value.{Value}
use Rattle.n1ql_value.specs.declared.value.Value.TheVariants.{Missing, Int, Array, Object}
use Rattle.n1ql_value.specs.Datum.{value_of}
use Rattle.n1ql_value.specs.Names.{under_name}
use Rattle.n1ql_value.specs.Kinds.{or_missing}

abbrev pub field_of : List ℕ → Value → Value
field_of name (Object ps) = or_missing (option_map value_of (under_name name ps))
field_of name _ = Missing

-- places count from 0, and from the end back from -1
abbrev pub element_at : List Datum → ℤ → Option Datum
element_at ds (pos n) = slice_get ds n
element_at ds (negsuc n) = slice_get (reverse ds) n

abbrev pub place_of : Value → Value → Value
place_of (Array ds) (Int z) = or_missing (option_map value_of (element_at ds z))
place_of _ _ = Missing
