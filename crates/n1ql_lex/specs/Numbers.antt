-- Numbers: 0, or digits that don't begin with 0, of at most 2^63. 36 is `$`, 46 the point and 48 the digit 0.
use Rattle.std.specs.Prelude.{ℕ, ◌+◌, ◌-◌, ◌*◌, ◌^◌, Bool, false, not, ◌&&◌, ◌||◌, ◌==◌, nat_le, nat_lt, List, [], ◌∷◌, length, drop}
use Rattle.std.specs.Char.{is_ascii_digit}
use Rattle.std.specs.List.{take_while}
use Rattle.n1ql_lex.specs.Bytes.{is_letter}

-- the digits at the front
abbrev pub digits_of : List ℕ → List ℕ
digits_of bytes = take_while is_ascii_digit bytes

-- the number that digits write after others of value n
abbrev pub value_after : ℕ → List ℕ → ℕ
value_after n [] = n
value_after n (d ∷ ds) = value_after (n * 10 + (d - 48)) ds

abbrev pub value_of : List ℕ → ℕ
value_of digits = value_after 0 digits

abbrev pub has_leading_zero : List ℕ → Bool
has_leading_zero [] = false
has_leading_zero (d ∷ ds) = d == 48 && nat_lt 0 (length ds)

abbrev pub begins_with_digit : List ℕ → Bool
begins_with_digit [] = false
begins_with_digit (b ∷ bytes) = is_ascii_digit b

-- what may not follow a number directly: a letter, `_`, `$`, or a point and a digit
abbrev pub goes_on : List ℕ → Bool
goes_on [] = false
goes_on (b ∷ bytes) = is_letter b || b == 36 || (b == 46 && begins_with_digit bytes)

-- the digits at the front are a number, with nothing that goes on behind it
unfoldable pub is_number : List ℕ → Bool
is_number bytes =
    let digits = digits_of bytes in
    not (has_leading_zero digits) && nat_le (value_of digits) (2 ^ 63) && not (goes_on (drop (length digits) bytes))
