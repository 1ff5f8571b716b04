-- What holds of each value: numbers of 64 bits, texts in UTF-8, names in byte order and each once.
use Rattle.std.specs.Prelude.{ℕ, ◌^◌, ℤ, pos, negsuc, List, [], ◌∷◌, Bool, true, ◌&&◌, nat_lt, map}
use Rattle.std.specs.Str.{is_utf8}
use Rattle.std.specs.Ordering.{nat_cmp, is_lt}
use Rattle.std.specs.Cmp.Lexicographic.{slice_cmp}
use Rattle.n1ql_value.specs.declared.datum.Datum.{Datum, fold-Datum}
use Rattle.n1ql_value.specs.declared.datum.Datum.TheOpen.{Datum-F}

-- each of the tests is true
abbrev pub all_true : List Bool → Bool
all_true [] = true
all_true (b ∷ bs) = b && all_true bs

-- the number is an integer of 64 bits with a sign
abbrev pub is_int64 : ℤ → Bool
is_int64 (pos n) = nat_lt n (2 ^ 63)
is_int64 (negsuc n) = nat_lt n (2 ^ 63)

-- the name is below the first of the pairs
abbrev pub is_below_first : {A : Type 0} → List ℕ → List (List ℕ × A) → Bool
is_below_first name [] = true
is_below_first name (p ∷ ps) = is_lt (slice_cmp nat_cmp name p.0)

-- the names strictly grow
abbrev pub names_grow : {A : Type 0} → List (List ℕ × A) → Bool
names_grow [] = true
names_grow (p ∷ ps) = is_below_first p.0 ps && names_grow ps

-- the name is a text, and the test at it is true
abbrev pub is_pair : List ℕ × Bool → Bool
is_pair p = is_utf8 p.0 && p.1

abbrev pub is_value_layer : Datum-F Bool → Bool
is_value_layer Datum-F.Missing = true
is_value_layer Datum-F.Null = true
is_value_layer (Datum-F.Bool b) = true
is_value_layer (Datum-F.Int z) = is_int64 z
is_value_layer (Datum-F.Text t) = is_utf8 t
is_value_layer (Datum-F.Array bs) = all_true bs
is_value_layer (Datum-F.Object ps) = names_grow ps && all_true (map is_pair ps)

-- the value is one that a program can hold
abbrev pub is_value : Datum → Bool
is_value = fold-Datum Bool is_value_layer
