-- The members of an object, and what their values are.
use Rattle.std.specs.Prelude.{ℕ, ℤ, pos, List, [], Bool, false, Option, Some, None, option_map, option_and_then, unwrap_or, unsigned_abs}
use Rattle.std.specs.List.{list_all}
use Rattle.std.specs.Option.{option_map_or}
use Rattle.std.specs.Str.{bytes_eq}
use Rattle.n1ql_value.specs.declared.datum.Datum.{Datum}
use Rattle.n1ql_value.specs.declared.value.Value.{Value}
use Rattle.n1ql_value.specs.declared.value.Value.TheVariants as value
use Rattle.n1ql_value.specs.Datum.{value_of}
use Rattle.n1ql_value.specs.Kinds.{number_in, text_in}
use Rattle.n1ql_value.specs.Names.{under_name}

-- names with their values, in byte order of the names and each name once
abbrev pub Members : Type 0
Members = List (List ℕ × Datum)

abbrev pub no_members : Members
no_members = []

-- TRUE or FALSE, None where the value is another thing
abbrev pub flag_in : Value → Option Bool
flag_in (value.Bool b) = Some b
flag_in _ = None

-- the value is this text
abbrev pub is_word : List ℕ → Value → Bool
is_word word v = option_map_or (λ t. bytes_eq t word) (text_in v) false

-- the value under a name
abbrev pub value_at : List ℕ → Members → Option Value
value_at name members = option_map value_of (under_name name members)

-- the text under a name, where one stands there
abbrev pub optional_text : List ℕ → Members → Option (List ℕ)
optional_text name members = option_and_then text_in (value_at name members)

-- what stands under a name; where no such thing stands there, the other one
abbrev pub text_at : List ℕ → List ℕ → Members → List ℕ
text_at name other members = unwrap_or (optional_text name members) other

abbrev pub number_at : List ℕ → ℤ → Members → ℤ
number_at name other members = unwrap_or (option_and_then number_in (value_at name members)) other

abbrev pub flag_at : List ℕ → Bool → Members → Bool
flag_at name other members = unwrap_or (option_and_then flag_in (value_at name members)) other

-- a number as a count: in its range it isn't negative
abbrev pub count_at : List ℕ → ℕ → Members → ℕ
count_at name other members = unsigned_abs (number_at name (pos other) members)

-- each member passes, each item passes
abbrev pub each_member : (List ℕ → Value → Bool) → Members → Bool
each_member test members = list_all (λ m. test m.0 (value_of m.1)) members

abbrev pub each_item : (Value → Bool) → List Datum → Bool
each_item test items = list_all (λ d. test (value_of d)) items
