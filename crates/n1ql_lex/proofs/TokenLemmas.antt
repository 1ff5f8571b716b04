-- What the definition of a token gives: it ends in an ASCII byte, and one token at most stands at the front of a text.
use Rattle.std.proofs.Common.{◌≡◌, ℕ, ◌+◌, ◌-◌, ◌<◌, Bool, true, ◌||◌, if◌then◌else◌, List, [], ◌∷◌, length, get_or, Option, Some, None, sym, refl, ap, ◌∙◌, subst, arith, eqb, length-take-le}
use Rattle.std.specs.Char.{is_ascii_digit}
use Rattle.std.specs.List.{prefix_len, take_while}
use Rattle.std.proofs.lemmas.Bool.{cond_both, cond-true, eqb-true}
use Rattle.std.proofs.lemmas.Bool.Decides.{nat_tests}
use Rattle.std.proofs.lemmas.List.Sums.{prefix_len_passes, prefix_len-le-length, prefix_len-drop_yes}
use Rattle.n1ql_lex.specs.declared.lexeme.Lexeme.{Lexeme}
use Rattle.n1ql_lex.specs.declared.opening.Opening.{Opening}
use Rattle.n1ql_lex.specs.declared.opening.Opening.TheVariants as opening
use Rattle.n1ql_lex.specs.declared.token_kind.TokenKind.{TokenKind}
use Rattle.n1ql_lex.specs.declared.token_kind.TokenKind.TheVariants.{Name, Str}
use Rattle.n1ql_lex.specs.Bytes.{is_blank, is_letter, is_word_byte, opening_of}
use Rattle.n1ql_lex.specs.Lexemes.{IsLexeme, IsLexemeOf}
use Rattle.n1ql_lex.specs.Signs.{sign_of}
use Rattle.n1ql_lex.specs.Tokens.{IsToken, IsTokenOf}
use Rattle.n1ql_lex.proofs.Cuts.{EndsInAscii, ends_later}
use Rattle.n1ql_lex.proofs.QuotedLemmas.{quoted-ends, quoted-same}
use Rattle.n1ql_lex.proofs.SignLemmas.{sign_of-fits, sign-stands}

-- what an opening says of its byte
data OpeningFits (b : ℕ) : Opening → Type 0 where
  blank_fits : OpeningFits b opening.Blank
  word_fits : is_word_byte b ≡ true → OpeningFits b opening.Word
  number_fits : is_ascii_digit b ≡ true → OpeningFits b opening.Number
  string_fits : b < 128 → OpeningFits b opening.String
  name_fits : b < 128 → OpeningFits b opening.Name
  sign_fits : OpeningFits b opening.Sign

letter-word_byte : (b : ℕ) → is_letter b ≡ true → is_word_byte b ≡ true
letter-word_byte b h = grind (arith, nat_tests)

quote-ascii : (b : ℕ) → (eqb b 34 || eqb b 39) ≡ true → b < 128
quote-ascii b h = grind (arith, nat_tests)

opening_of-fits : (b : ℕ) → OpeningFits b (opening_of b)
unfolding opening_of
opening_of-fits b =
    let last = if eqb b 96 then opening.Name else opening.Sign in
    let quoted = if eqb b 34 || eqb b 39 then opening.String else last in
    let number = if is_ascii_digit b then opening.Number else quoted in
    let word = if is_letter b then opening.Word else number in
    cond_both (is_blank b) opening.Blank word (OpeningFits b) (λ _. blank_fits)
    (λ _. cond_both (is_letter b) opening.Word number (OpeningFits b) (λ h. word_fits (letter-word_byte b h))
    (λ _. cond_both (is_ascii_digit b) opening.Number quoted (OpeningFits b) number_fits
    (λ _. cond_both (eqb b 34 || eqb b 39) opening.String last (OpeningFits b) (λ h. string_fits (quote-ascii b h))
    (λ _. cond_both (eqb b 96) opening.Name opening.Sign (OpeningFits b) (λ h. name_fits (omega (arith, eqb-true b 96 h))) (λ _. sign_fits)))))

string-low : {b : ℕ} → OpeningFits b opening.String → b < 128
string-low (string_fits low) = low

name-low : {b : ℕ} → OpeningFits b opening.Name → b < 128
name-low (name_fits low) = low

pub string-ascii : (b : ℕ) → opening_of b ≡ opening.String → b < 128
string-ascii b e = string-low (subst (OpeningFits b) e (opening_of-fits b))

pub name-ascii : (b : ℕ) → opening_of b ≡ opening.Name → b < 128
name-ascii b e = name-low (subst (OpeningFits b) e (opening_of-fits b))

-- a blank opens nothing
pub opening_of-blank : (b : ℕ) → is_blank b ≡ true → opening_of b ≡ opening.Blank
unfolding opening_of
opening_of-blank b h = cond-true _ _ _ h

is_word_byte-ascii : (b : ℕ) → is_word_byte b ≡ true → b < 128
is_word_byte-ascii b h = grind (arith, nat_tests)

is_ascii_digit-ascii : (b : ℕ) → is_ascii_digit b ≡ true → b < 128
is_ascii_digit-ascii b h = grind (arith, nat_tests)

-- the longest front of ASCII bytes of some kind, where the first byte is of that kind
front-ends : (passes : ℕ → Bool) → ((b : ℕ) → passes b ≡ true → b < 128) → (text : List ℕ) → 0 < length text → passes (get_or text 0 0) ≡ true → EndsInAscii text (length (take_while passes text))
front-ends passes ascii text some first =
    let n = prefix_len passes text in
    let within = prefix_len-le-length passes text in
    let positive : 0 < n = omega (arith, prefix_len-drop_yes passes text 0 0 some first) in
    subst (EndsInAscii text) (sym (length-take-le n text within))
    (record { some = positive; within = within; ascii = ascii _ (prefix_len_passes passes text (n - 1) 0 (omega arith)) })

some-length : (bytes : List ℕ) → (bytes ≡ [] → ⊥) → 0 < length bytes
some-length [] h = absurd (h refl)
some-length (b ∷ bytes) h = omega arith

-- a token ends in an ASCII byte
token_of-ends : {o : Opening} (text : List ℕ) (kind : TokenKind) (len : ℕ) → 0 < length text → OpeningFits (get_or text 0 0) o → IsTokenOf o text kind len → EndsInAscii text len
token_of-ends text kind len some blank_fits h = absurd h
token_of-ends text kind len some (word_fits first) h = subst (EndsInAscii text) (sym h.1) (front-ends is_word_byte is_word_byte-ascii text some first)
token_of-ends text kind len some (number_fits first) h = subst (EndsInAscii text) (sym h.2) (front-ends is_ascii_digit is_ascii_digit-ascii text some first)
token_of-ends text kind len some (string_fits low) h = subst (EndsInAscii text) (sym h.4) (ends_later text 1 h.1 (quoted-ends low h.2))
token_of-ends text kind len some (name_fits low) h = subst (EndsInAscii text) (sym h.5) (ends_later text 1 h.1 (quoted-ends low h.2))
token_of-ends text kind len some sign_fits h = subst (EndsInAscii text) (sym h.2) (sign-stands (sign_of-fits text) (some-length (sign_of text) h.0)).1

pub token-ends : {text : List ℕ} {kind : TokenKind} {len : ℕ} → IsToken text kind len → EndsInAscii text len
token-ends {text} {kind} {len} t = token_of-ends text kind len t.some (opening_of-fits (get_or text 0 0)) t.token

-- one opening has one token
token_of-same : (o : Opening) (text : List ℕ) (kind other : TokenKind) (len more : ℕ) → IsTokenOf o text kind len → IsTokenOf o text other more → (kind ≡ other) × (len ≡ more)
token_of-same opening.Blank text kind other len more h k = absurd h
token_of-same opening.Word text kind other len more h k = (h.0 ∙ sym k.0, h.1 ∙ sym k.1)
token_of-same opening.Number text kind other len more h k = (h.1 ∙ sym k.1, h.2 ∙ sym k.2)
token_of-same opening.String text kind other len more h k =
    let same = quoted-same h.2 k.2 in (h.3 ∙ ap Str same.0 ∙ sym k.3, h.4 ∙ ap (λ n. 1 + n) same.1 ∙ sym k.4)
token_of-same opening.Name text kind other len more h k =
    let same = quoted-same h.2 k.2 in (h.4 ∙ ap (λ name. Name name true) same.0 ∙ sym k.4, h.5 ∙ ap (λ n. 1 + n) same.1 ∙ sym k.5)
token_of-same opening.Sign text kind other len more h k = (h.1 ∙ sym k.1, h.2 ∙ sym k.2)

pub token-same : {text : List ℕ} {kind other : TokenKind} {len more : ℕ} → IsToken text kind len → IsToken text other more → (kind ≡ other) × (len ≡ more)
token-same {text} {kind} {other} {len} {more} t u = token_of-same (opening_of (get_or text 0 0)) text kind other len more t.token u.token

-- no token begins with a blank
pub blank-no_token : {text : List ℕ} {kind : TokenKind} {len : ℕ} → is_blank (get_or text 0 0) ≡ true → IsToken text kind len → ⊥
blank-no_token {text} {kind} {len} b t = subst (λ o. IsTokenOf o text kind len) (opening_of-blank (get_or text 0 0) b) t.token

-- what the search for an opening's token found is what stands at the front
pub found-here : (text : List ℕ) (o : Opening) (found : Option Lexeme) → 0 < length text → opening_of (get_or text 0 0) ≡ o → IsLexemeOf o text found → IsLexeme text found
found-here text o (Some found) some e h = record { some = some; token = subst (λ p. IsTokenOf p text found.kind found.len) (sym e) h }
found-here text o None some e h = λ kind len t. h kind len (subst (λ p. IsTokenOf p text kind len) e t.token)
