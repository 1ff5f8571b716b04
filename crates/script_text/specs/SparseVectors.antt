-- Sparse vectors: objects that name some vBuckets in decimal and give a number for each.
use Rattle.std.specs.Prelude.{ℕ, pos, ◌+◌, ◌-◌, ◌*◌, ◌==◌, List, fold, map, length, decimal, unwrap_or, slice_index, Bool, false, not, ◌&&◌, ◌||◌, nat_le, nat_lt, int_le}
use Rattle.std.specs.List.{list_all, range_with_len}
use Rattle.std.specs.Option.{option_map_or, is_some}
use Rattle.n1ql_value.specs.declared.value.Value.{Value}
use Rattle.n1ql_value.specs.Kinds.{number_in, object_in}
use Rattle.script_text.specs.Members.{Members, no_members, count_at, each_member}

abbrev pub is_digit : ℕ → Bool
is_digit b = nat_le 48 b && nat_le b 57

-- digits alone, at least one; a 0 in front stands alone
abbrev pub is_decimal : List ℕ → Bool
is_decimal name =
    nat_lt 0 (length name) && (length name == 1 || not (slice_index name 0 == 48)) && list_all is_digit name

-- the number that digits stand for
abbrev pub with_digit : ℕ → ℕ → ℕ
with_digit n b = n * 10 + (b - 48)

unfoldable pub number_of_digits : List ℕ → ℕ
number_of_digits digits = fold with_digit 0 digits

abbrev pub is_entry : List ℕ → Value → Bool
is_entry name v = is_decimal name && is_some (number_in v)

-- an object of such entries
abbrev pub is_vector : Value → Bool
is_vector v = option_map_or (each_member is_entry) (object_in v) false

-- a vBucket below n, and a number that isn't negative
abbrev pub is_entry_below : ℕ → List ℕ → Value → Bool
is_entry_below n name v = nat_lt (number_of_digits name) n && option_map_or (int_le (pos 0)) (number_in v) false

abbrev pub is_vector_below : ℕ → Value → Bool
is_vector_below n v = option_map_or (each_member (is_entry_below n)) (object_in v) false

-- the vector of n vBuckets that entries give: the number under each vBucket's name, and 0 where it isn't named
abbrev pub vector_of : ℕ → Members → List ℕ
vector_of n entries = map (λ vb. count_at (decimal vb) 0 entries) (range_with_len 0 n)

abbrev pub vector_of_value : ℕ → Value → List ℕ
vector_of_value n v = vector_of n (unwrap_or (object_in v) no_members)
