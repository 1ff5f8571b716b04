-- What kind of value stands somewhere, and what a value of a kind holds.
use Rattle.std.specs.Prelude.{ℕ, ℤ, Bool, true, false, List, Option, Some, None, not, ◌||◌}
use Rattle.n1ql_value.specs.declared.datum.Datum.{Datum}
use Rattle.n1ql_value.specs.declared.value.Value.{Value}
use Rattle.n1ql_value.specs.declared.value.Value.TheVariants.{Missing, Null, Int, Text, Array, Object}
use Rattle.n1ql_value.specs.declared.value.Value.TheVariants as value

abbrev pub is_missing : Value → Bool
is_missing Missing = true
is_missing _ = false

abbrev pub is_null : Value → Bool
is_null Null = true
is_null _ = false

-- neither MISSING nor NULL
abbrev pub is_valued : Value → Bool
is_valued v = not (is_missing v || is_null v)

abbrev pub is_true : Value → Bool
is_true (value.Bool true) = true
is_true _ = false

abbrev pub is_false : Value → Bool
is_false (value.Bool false) = true
is_false _ = false

-- the number, the text, the elements or the pairs, or none where the value is of another kind
abbrev pub number_in : Value → Option ℤ
number_in (Int z) = Some z
number_in _ = None

abbrev pub text_in : Value → Option (List ℕ)
text_in (Text t) = Some t
text_in _ = None

abbrev pub array_in : Value → Option (List Datum)
array_in (Array ds) = Some ds
array_in _ = None

abbrev pub object_in : Value → Option (List (List ℕ × Datum))
object_in (Object ps) = Some ps
object_in _ = None

-- the value, or NULL or MISSING where there is none
abbrev pub or_null : Option Value → Value
or_null None = Null
or_null (Some v) = v

abbrev pub or_missing : Option Value → Value
or_missing None = Missing
or_missing (Some v) = v
