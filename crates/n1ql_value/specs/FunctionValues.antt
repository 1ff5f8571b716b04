-- What the functions of the language give, a line for each.
use Rattle.std.specs.Prelude.{ℕ, pos, unsigned_abs, Bool, true, false, not, ◌||◌, ◌==◌, List, [], ◌∷◌, map, length, codes, Option, Some, None, if◌then◌else◌}
use Rattle.std.specs.Fmt.{signed_decimal}
use Rattle.std.specs.List.{filter, find, fold, starts_with}
use Rattle.std.specs.Option.{option_map}
use Rattle.std.specs.Ordering.{is_lt}
use Rattle.std.specs.Str.{chars}
use Rattle.std.specs.declared.cmp.Ordering.{Ordering}
use Rattle.n1ql_value.specs.declared.datum.Datum.{Datum}
use Rattle.n1ql_value.specs.declared.datum.Datum.TheVariants as datum
use Rattle.n1ql_value.specs.declared.fun.Fun.{Fun}
use Rattle.n1ql_value.specs.declared.fun.Fun.TheVariants.{Abs, ArrayLength, ArrayContains, Contains, Greatest, Least, IfMissing, IfNull, IfMissingOrNull, Length, ObjectNames, ToString, TypeOf}
use Rattle.n1ql_value.specs.declared.value.Value.{Value}
use Rattle.n1ql_value.specs.declared.value.Value.TheVariants.{Missing, Null, Int, Text, Array, Object}
use Rattle.n1ql_value.specs.declared.value.Value.TheVariants as value
use Rattle.n1ql_value.specs.Datum.{value_of}
use Rattle.n1ql_value.specs.Collation.{value_cmp, key_at}
use Rattle.n1ql_value.specs.Kinds.{is_missing, is_null, is_valued, number_in, text_in, array_in, object_in, or_null}
use Rattle.n1ql_value.specs.Tables.{on_kind, on_kinds}
use Rattle.n1ql_value.specs.Comparison.{in_of}
use Rattle.n1ql_value.specs.Arithmetic.{number_of}

-- the second text occurs in the first
abbrev pub occurs : List ℕ → List ℕ → Bool
occurs [] part = starts_with ◌==◌ [] part
occurs (b ∷ bs) part = starts_with ◌==◌ (b ∷ bs) part || occurs bs part

-- the first value that is so, else NULL
abbrev pub first_that : (Value → Bool) → List Datum → Value
first_that so ds = or_null (find so (map value_of ds))

-- of two values the one that stands above the other by an order
abbrev pub higher : (Datum → Datum → Ordering) → Option Datum → Datum → Option Datum
higher R None d = Some d
higher R (Some e) d = Some (if is_lt (R e d) then d else e)

-- of values the one that stands above all others, and none of none
abbrev pub topmost : (Datum → Datum → Ordering) → List Datum → Option Datum
topmost R ds = fold (higher R) None ds

-- of the values that are neither MISSING nor NULL the topmost, else NULL
abbrev pub topmost_valued : (Datum → Datum → Ordering) → List Datum → Value
topmost_valued R ds = or_null (option_map value_of (topmost R (filter (λ d. is_valued (value_of d)) ds)))

abbrev pub absolute_of : Value → Value
absolute_of v = on_kind number_in (λ z. number_of (pos (unsigned_abs z))) v

abbrev pub count_of : Value → Value
count_of v = on_kind array_in (λ ds. Int (pos (length ds))) v

abbrev pub contains_of : Value → Value → Value
contains_of text part = on_kinds text_in (λ s t. value.Bool (occurs s t)) text part

-- how many code points a string has
abbrev pub length_of : Value → Value
length_of v = on_kind text_in (λ t. Int (pos (length (chars t)))) v

-- the names of an object, which stand in byte order
abbrev pub names_of : Value → Value
names_of v = on_kind object_in (λ ps. Array (map (λ (p : List ℕ × Datum). datum.Text p.0) ps)) v

-- a string itself, a number in decimal, TRUE and FALSE by their names, else NULL
abbrev pub string_of : Value → Value
string_of Missing = Missing
string_of Null = Null
string_of (value.Bool true) = Text (codes "true")
string_of (value.Bool false) = Text (codes "false")
string_of (Int z) = Text (signed_decimal z)
string_of (Text t) = Text t
string_of (Array ds) = Null
string_of (Object ps) = Null

abbrev pub type_name : Value → List ℕ
type_name Missing = codes "missing"
type_name Null = codes "null"
type_name (value.Bool b) = codes "boolean"
type_name (Int z) = codes "number"
type_name (Text t) = codes "string"
type_name (Array ds) = codes "array"
type_name (Object ps) = codes "object"

-- the argument at a place
abbrev pub argument : List Datum → ℕ → Value
argument ds place = value_of (key_at ds place)

-- the value of a call
abbrev pub call_of : Fun → List Datum → Value
call_of Abs ds = absolute_of (argument ds 0)
call_of ArrayLength ds = count_of (argument ds 0)
call_of ArrayContains ds = in_of (argument ds 1) (argument ds 0)
call_of Contains ds = contains_of (argument ds 0) (argument ds 1)
call_of Greatest ds = topmost_valued value_cmp ds
call_of Least ds = topmost_valued (λ d e. value_cmp e d) ds
call_of IfMissing ds = first_that (λ v. not (is_missing v)) ds
call_of IfNull ds = first_that (λ v. not (is_null v)) ds
call_of IfMissingOrNull ds = first_that is_valued ds
call_of Length ds = length_of (argument ds 0)
call_of ObjectNames ds = names_of (argument ds 0)
call_of ToString ds = string_of (argument ds 0)
call_of TypeOf ds = Text (type_name (argument ds 0))
