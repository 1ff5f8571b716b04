-- Text between quotes: a string in `"` or `'`, a name in backquotes. 34, 39, 92 and 96 are `"`, `'`, the backslash and
-- the backquote, 117 is `u`.
use Rattle.std.specs.Prelude.{◌≡◌, ℕ, ◌+◌, ◌*◌, Bool, not, ◌&&◌, ◌||◌, ◌==◌, nat_le, nat_lt, List, [], ◌∷◌, ◌++◌, length, drop, slice_index, Option, Some, None, if◌then◌else◌}
use Rattle.std.specs.Char.{digit_value, encode_utf8}
use Rattle.std.specs.Char.Utf16.{is_low_surrogate, is_high_surrogate, surrogate_pair_char}
use Rattle.n1ql_lex.specs.declared.quoted_part.QuotedPart.{QuotedPart}
use Rattle.n1ql_lex.specs.declared.quoted_part.QuotedPart.TheVariants.{End, Plain, Stands, Broken}

-- the character that stands behind a backslash: \" \' \\ \/ and \b \f \n \r \t
abbrev pub escaped_char : ℕ → Option ℕ
escaped_char letter =
    if letter == 34 || letter == 39 || letter == 92 || letter == 47 then Some letter
    else (if letter == 98 then Some 8
    else (if letter == 102 then Some 12
    else (if letter == 110 then Some 10
    else (if letter == 114 then Some 13
    else (if letter == 116 then Some 9
    else None)))))

abbrev pub is_hex : ℕ → Bool
is_hex b = nat_lt (digit_value b) 16

-- four hexadecimal digits stand at the front
abbrev pub begins_with_hex4 : List ℕ → Bool
begins_with_hex4 bytes =
    nat_le 4 (length bytes) && is_hex (slice_index bytes 0) && is_hex (slice_index bytes 1) && is_hex (slice_index bytes 2) &&
    is_hex (slice_index bytes 3)

abbrev pub hex4_value : List ℕ → ℕ
hex4_value bytes =
    ((digit_value (slice_index bytes 0) * 16 + digit_value (slice_index bytes 1)) * 16 + digit_value (slice_index bytes 2)) * 16
    + digit_value (slice_index bytes 3)

-- the number that four hexadecimal digits at the front write
unfoldable pub hex4 : List ℕ → Option ℕ
hex4 bytes = if begins_with_hex4 bytes then Some (hex4_value bytes) else None

-- \u and a low surrogate after a high one: both together are one character
abbrev pub pair_of : ℕ → Option ℕ → QuotedPart
pair_of high None = Broken
pair_of high (Some low) = if is_low_surrogate low then Stands (surrogate_pair_char high low) 12 else Broken

abbrev pub begins_with_u : List ℕ → Bool
begins_with_u bytes = nat_le 2 (length bytes) && slice_index bytes 0 == 92 && slice_index bytes 1 == 117

unfoldable pub pair_at : ℕ → List ℕ → QuotedPart
pair_at high bytes = if begins_with_u bytes then pair_of high (hex4 (drop 2 bytes)) else Broken

-- a unit of UTF-16 after \u, where bytes follow it
abbrev pub unit_of : Option ℕ → List ℕ → QuotedPart
unit_of None bytes = Broken
unit_of (Some unit) bytes =
    if is_high_surrogate unit then pair_at unit bytes
    else (if is_low_surrogate unit then Broken
    else Stands unit 6)

abbrev pub escape_of : Option ℕ → QuotedPart
escape_of None = Broken
escape_of (Some character) = Stands character 2

-- what stands after a backslash, which counts with it
unfoldable pub escape_at : List ℕ → QuotedPart
escape_at [] = Broken
escape_at (letter ∷ bytes) = if letter == 117 then unit_of (hex4 bytes) (drop 4 bytes) else escape_of (escaped_char letter)

-- after a quote: the same quote again stands for one, else it was the end
abbrev pub quote_at : ℕ → List ℕ → QuotedPart
quote_at quote [] = End
quote_at quote (b ∷ bytes) = if b == quote then Stands quote 2 else End

-- a backslash begins an escape in strings alone
abbrev pub is_escape : ℕ → ℕ → Bool
is_escape quote b = b == 92 && not (quote == 96)

-- a byte that stands for itself
abbrev pub is_plain : ℕ → ℕ → Bool
is_plain quote b = not (b == quote) && not (is_escape quote b)

-- What stands at the front of quoted text: its end, a byte that stands for itself, a character that stands for the
-- first few bytes, or what may not stand there.
unfoldable pub part_at : ℕ → List ℕ → QuotedPart
part_at quote [] = Broken
part_at quote (b ∷ bytes) =
    if b == quote then quote_at quote bytes
    else (if is_escape quote b then escape_at bytes
    else Plain)

-- After an opening quote, the first `len` bytes end with the quote that closes it and stand for a text.
pub data IsQuoted (quote : ℕ) : (bytes text : List ℕ) (len : ℕ) → Type 0 where
  ends : {bytes : List ℕ} → part_at quote bytes ≡ End → IsQuoted quote bytes [] 1
  plain : {b : ℕ} {bytes text : List ℕ} {len : ℕ} →
      part_at quote (b ∷ bytes) ≡ Plain → IsQuoted quote bytes text len → IsQuoted quote (b ∷ bytes) (b ∷ text) (1 + len)
  stands : {bytes text : List ℕ} {len character n : ℕ} →
      part_at quote bytes ≡ Stands character n → IsQuoted quote (drop n bytes) text len →
      IsQuoted quote bytes (encode_utf8 character ++ text) (n + len)
