-- How tokens lie in their text.
use Rattle.std.specs.Prelude.{ℕ, ◌<◌, ◌≤◌, List, [], ◌∷◌, IsTrue, slice_index}
use Rattle.n1ql_lex.specs.declared.token.Token.{Token}
use Rattle.n1ql_lex.specs.Bytes.{is_blank}

-- Each token is of some bytes, and begins no sooner than the one before it ends.
abbrev pub SpansGrow : (from : ℕ) → List Token → (to : ℕ) → Type 0
SpansGrow from [] to = from ≤ to
SpansGrow from (token ∷ tokens) to = (from ≤ token.start) × (token.start < token.end) × SpansGrow token.end tokens to

-- nothing but blanks stands between two places
abbrev pub AreBlanks : List ℕ → (from to : ℕ) → Type 0
AreBlanks text from to = (at : ℕ) → from ≤ at → at < to → IsTrue (is_blank (slice_index text at))

-- nothing but blanks stands before, between and behind tokens
abbrev pub BlanksBetween : List ℕ → (from : ℕ) → List Token → (to : ℕ) → Type 0
BlanksBetween text from [] to = AreBlanks text from to
BlanksBetween text from (token ∷ tokens) to = AreBlanks text from token.start × BlanksBetween text token.end tokens to
