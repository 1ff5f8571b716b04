-- The lines of an input.
use Rattle.std.specs.Prelude.{ℕ, ◌+◌, List, [], ◌∷◌, Bool, ◌||◌, ◌==◌, if◌then◌else◌}
use Rattle.std.specs.List.{list_all}

abbrev pub is_line_feed : ℕ → Bool
is_line_feed b = b == 10

-- the lines, with b in front of the first
abbrev pub in_front : ℕ → List (List ℕ) → List (List ℕ)
in_front b [] = (b ∷ []) ∷ []
in_front b (line ∷ lines) = (b ∷ line) ∷ lines

-- the input, cut at each line feed; a last piece that is empty is no line
abbrev pub lines_of : List ℕ → List (List ℕ)
lines_of [] = []
lines_of (b ∷ bytes) = if is_line_feed b then [] ∷ lines_of bytes else in_front b (lines_of bytes)

-- nothing but spaces, tabs and carriage returns
abbrev pub is_blank : List ℕ → Bool
is_blank line = list_all (λ b. b == 32 || b == 9 || b == 13) line

-- the lines that aren't blank, each with its number, behind n others
abbrev pub numbered_after : ℕ → List (List ℕ) → List (ℕ × List ℕ)
numbered_after n [] = []
numbered_after n (line ∷ lines) =
    if is_blank line then numbered_after (n + 1) lines else (n + 1, line) ∷ numbered_after (n + 1) lines
