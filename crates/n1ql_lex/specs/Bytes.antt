-- What a byte of a text may begin or go on. 9, 10, 13 and 32 are the tab, the line feed, the carriage return and the
-- space, 34 and 39 the quotes of strings, 36 is `$`, 95 is `_` and 96 the backquote.
use Rattle.std.specs.Prelude.{ℕ, Bool, ◌||◌, ◌==◌, if◌then◌else◌}
use Rattle.std.specs.Char.{is_ascii_alphabetic, is_ascii_digit}
use Rattle.n1ql_lex.specs.declared.opening.Opening.{Opening}
use Rattle.n1ql_lex.specs.declared.opening.Opening.TheVariants.{Blank, Word, Number, String, Name, Sign}

-- the bytes that part tokens
abbrev pub is_blank : ℕ → Bool
is_blank b = b == 32 || b == 9 || b == 10 || b == 13

-- a byte that begins a word
abbrev pub is_letter : ℕ → Bool
is_letter b = is_ascii_alphabetic b || b == 95

-- a byte that goes on a word
abbrev pub is_word_byte : ℕ → Bool
is_word_byte b = is_letter b || is_ascii_digit b || b == 36

-- what begins with a byte
unfoldable pub opening_of : ℕ → Opening
opening_of b =
    if is_blank b then Blank
    else (if is_letter b then Word
    else (if is_ascii_digit b then Number
    else (if b == 34 || b == 39 then String
    else (if b == 96 then Name
    else Sign))))
