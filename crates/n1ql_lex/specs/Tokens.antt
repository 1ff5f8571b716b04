-- The tokens of a text. Places are byte places in it.
use Rattle.std.specs.Prelude.{◌≡◌, ◌≢◌, ℕ, ◌+◌, ◌<◌, List, [], ◌∷◌, length, drop, IsTrue, true, false, slice_index}
use Rattle.n1ql_lex.specs.declared.opening.Opening.{Opening}
use Rattle.n1ql_lex.specs.declared.opening.Opening.TheVariants as opening
use Rattle.n1ql_lex.specs.declared.token.Token.{Token}
use Rattle.n1ql_lex.specs.declared.token_kind.TokenKind.{TokenKind}
use Rattle.n1ql_lex.specs.declared.token_kind.TokenKind.TheVariants.{Name, Str, Num, Sign}
use Rattle.n1ql_lex.specs.Bytes.{opening_of, is_blank}
use Rattle.n1ql_lex.specs.Words.{reserved_word_of, kind_of_word, word_of}
use Rattle.n1ql_lex.specs.Numbers.{is_number, digits_of, value_of}
use Rattle.n1ql_lex.specs.Signs.{sign_of}
use Rattle.n1ql_lex.specs.Quoted.{IsQuoted}

-- The first `len` bytes are a token of this kind, by what the first byte opens.
abbrev pub IsTokenOf : Opening → List ℕ → TokenKind → ℕ → Type 0
IsTokenOf opening.Blank text kind len = ⊥
IsTokenOf opening.Word text kind len =
    let word = word_of text in (kind ≡ kind_of_word word (reserved_word_of word)) × (len ≡ length word)
IsTokenOf opening.Number text kind len =
    IsTrue (is_number text) × (kind ≡ Num (value_of (digits_of text))) × (len ≡ length (digits_of text))
IsTokenOf opening.String text kind len =
    (meant : List ℕ) × (n : ℕ) × IsQuoted (slice_index text 0) (drop 1 text) meant n × (kind ≡ Str meant) × (len ≡ 1 + n)
IsTokenOf opening.Name text kind len =
    (name : List ℕ) × (n : ℕ) × IsQuoted (slice_index text 0) (drop 1 text) name n × (name ≢ []) ×
    (kind ≡ Name name true) × (len ≡ 1 + n)
IsTokenOf opening.Sign text kind len = (sign_of text ≢ []) × (kind ≡ Sign (sign_of text)) × (len ≡ length (sign_of text))

-- the token at the front of a text
pub record IsToken (text : List ℕ) (kind : TokenKind) (len : ℕ) : Type 0 where
  pub some : 0 < length text
  pub token : IsTokenOf (opening_of (slice_index text 0)) text kind len

-- Between two places the text is these tokens, with nothing but blanks between them.
pub data IsCut (text : List ℕ) : (from : ℕ) (tokens : List Token) (to : ℕ) → Type 0 where
  none : {at : ℕ} → IsCut text at [] at
  blank : {at to : ℕ} {tokens : List Token} →
      at < length text → IsTrue (is_blank (slice_index text at)) → IsCut text (at + 1) tokens to → IsCut text at tokens to
  token : {at to : ℕ} {kind : TokenKind} {tokens : List Token} (len : ℕ) →
      IsToken (drop at text) kind len → IsCut text (at + len) tokens to →
      IsCut text at (record { kind = kind; start = at; end = at + len } ∷ tokens) to

-- the tokens of a text
abbrev pub IsTokens : List ℕ → List Token → Type 0
IsTokens text tokens = IsCut text 0 tokens (length text)

-- The first byte of what is no token: tokens stand before it, and neither a blank nor a token stands there.
pub record IsFault (text : List ℕ) (at : ℕ) : Type 0 where
  pub tokens : List Token
  pub before : IsCut text 0 tokens at
  pub inside : at < length text
  pub no_blank : is_blank (slice_index text at) ≡ false
  pub no_token : (kind : TokenKind) (len : ℕ) → IsToken (drop at text) kind len → ⊥
