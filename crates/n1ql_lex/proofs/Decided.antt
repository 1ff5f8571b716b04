-- Each text has tokens or a fault.
use Rattle.std.proofs.Common.{◌≡◌, ℕ, suc, zero, ◌+◌, ◌-◌, ◌<◌, ◌≤◌, true, false, List, [], ◌∷◌, length, get_or, drop, ◌⊎◌, sym, refl, ◌∙◌, subst, inl, inr, ⊎_elim, arith, length-drop}
use Rattle.std.proofs.lemmas.Bool.{both_ways, cases_Bool, cases_lt}
use Rattle.n1ql_lex.specs.declared.opening.Opening.{Opening}
use Rattle.n1ql_lex.specs.declared.opening.Opening.TheVariants as opening
use Rattle.n1ql_lex.specs.declared.quoted_part.QuotedPart.{QuotedPart}
use Rattle.n1ql_lex.specs.declared.quoted_part.QuotedPart.TheVariants.{End, Plain, Stands, Broken}
use Rattle.n1ql_lex.specs.declared.token.Token.{Token}
use Rattle.n1ql_lex.specs.declared.token_kind.TokenKind.{TokenKind}
use Rattle.n1ql_lex.specs.Bytes.{is_blank, opening_of}
use Rattle.n1ql_lex.specs.Numbers.{is_number}
use Rattle.n1ql_lex.specs.Quoted.{part_at, IsQuoted, ends, plain, stands}
use Rattle.n1ql_lex.specs.Signs.{sign_of}
use Rattle.n1ql_lex.specs.Tokens.{IsToken, IsTokenOf, IsCut, IsTokens, IsFault, none, blank, token}
use Rattle.n1ql_lex.proofs.QuotedLemmas.{PartFits, part_at-fits, stands-fits, quoted-at_broken, quoted-at_plain, quoted-at_stands, quoted-same}
use Rattle.n1ql_lex.proofs.TokenLemmas.{token-ends, string-ascii, name-ascii}

-- what is found at a place, or that nothing is
abbrev IsDecided : (List ℕ → ℕ → Type 0) → Type 0
IsDecided P = ((text : List ℕ) × (len : ℕ) × P text len) ⊎ ((text : List ℕ) (len : ℕ) → P text len → ⊥)

part_at-empty : (quote : ℕ) → part_at quote [] ≡ Broken
unfolding part_at
part_at-empty quote = refl

nothing-quoted : (quote : ℕ) → IsDecided (IsQuoted quote [])
nothing-quoted quote = inr (λ text len r. quoted-at_broken (part_at-empty quote) r)

part-decided : (quote fuel : ℕ) (bytes : List ℕ) → quote < 128 → length bytes ≤ suc fuel →
    ((rest : List ℕ) → length rest ≤ fuel → IsDecided (IsQuoted quote rest)) →
    (part : QuotedPart) → part_at quote bytes ≡ part → IsDecided (IsQuoted quote bytes)
part-decided quote fuel bytes low short later End e = inl ([], 1, ends e)
part-decided quote fuel bytes low short later Broken e = inr (λ text len r. quoted-at_broken e r)
part-decided quote fuel [] low short later Plain e = nothing-quoted quote
part-decided quote fuel (b ∷ bytes) low short later Plain e =
    ⊎_elim
    (λ yes. inl (b ∷ yes.0, 1 + yes.1, plain e yes.2))
    (λ no. inr (λ text len r. let at = quoted-at_plain e r in no at.rest_text at.rest_len at.rest))
    (later bytes (omega arith))
part-decided quote fuel bytes low short later (Stands character n) e =
    let fits = stands-fits (subst (PartFits quote bytes) e (part_at-fits quote bytes low)) in
    let some = fits.some in
    ⊎_elim
    (λ yes. inl (_, n + yes.1, stands e yes.2))
    (λ no. inr (λ text len r. let at = quoted-at_stands e r in no at.rest_text at.rest_len at.rest))
    (later (drop n bytes) (omega (arith, length-drop n bytes)))

quoted-decided : (quote fuel : ℕ) (bytes : List ℕ) → quote < 128 → length bytes ≤ fuel → IsDecided (IsQuoted quote bytes)
quoted-decided quote zero [] low short = nothing-quoted quote
quoted-decided quote zero (b ∷ bytes) low short = absurd (omega arith)
quoted-decided quote (suc fuel) bytes low short =
    part-decided quote fuel bytes low short (λ rest shorter. quoted-decided quote fuel rest low shorter) (part_at quote bytes) refl

-- the token of an opening, or that there is none
abbrev HasToken : Opening → List ℕ → Type 0
HasToken o text = ((kind : TokenKind) × (len : ℕ) × IsTokenOf o text kind len) ⊎ ((kind : TokenKind) (len : ℕ) → IsTokenOf o text kind len → ⊥)

empty-decided : (bytes : List ℕ) → (bytes ≡ []) ⊎ (bytes ≡ [] → ⊥)
empty-decided [] = inl refl
empty-decided (b ∷ bytes) = inr (λ e. cc)

has_token-decided : (o : Opening) (text : List ℕ) → opening_of (get_or text 0 0) ≡ o → HasToken o text
has_token-decided opening.Blank text e = inr (λ kind len h. h)
has_token-decided opening.Word text e = inl (_, _, (refl, refl))
has_token-decided opening.Number text e =
    ⊎_elim (λ yes. inl (_, _, (yes, refl, refl))) (λ no. inr (λ kind len h. both_ways _ no h.0)) (cases_Bool (is_number text))
has_token-decided opening.String text e =
    ⊎_elim
    (λ yes. inl (_, _, (yes.0, yes.1, yes.2, refl, refl)))
    (λ no. inr (λ kind len h. no h.0 h.1 h.2))
    (quoted-decided (get_or text 0 0) (length (drop 1 text)) (drop 1 text) (string-ascii (get_or text 0 0) e) (omega arith))
has_token-decided opening.Name text e =
    ⊎_elim
    (λ yes. ⊎_elim
    (λ empty. inr (λ kind len h. h.3 (sym (quoted-same yes.2 h.2).0 ∙ empty)))
    (λ some. inl (_, _, (yes.0, yes.1, yes.2, some, refl, refl)))
    (empty-decided yes.0))
    (λ no. inr (λ kind len h. no h.0 h.1 h.2))
    (quoted-decided (get_or text 0 0) (length (drop 1 text)) (drop 1 text) (name-ascii (get_or text 0 0) e) (omega arith))
has_token-decided opening.Sign text e =
    ⊎_elim (λ empty. inr (λ kind len h. h.0 empty)) (λ some. inl (_, _, (some, refl, refl))) (empty-decided (sign_of text))

token-decided : (text : List ℕ) → 0 < length text → ((kind : TokenKind) × (len : ℕ) × IsToken text kind len) ⊎ ((kind : TokenKind) (len : ℕ) → IsToken text kind len → ⊥)
token-decided text some =
    ⊎_elim
    (λ yes. inl (yes.0, yes.1, record { some = some; token = yes.2 }))
    (λ no. inr (λ kind len t. no kind len t.token))
    (has_token-decided (opening_of (get_or text 0 0)) text refl)

-- the text from a place on has tokens, or tokens and then a fault
record FaultFrom (text : List ℕ) (from : ℕ) : Type 0 where
  at : ℕ
  tokens : List Token
  before : IsCut text from tokens at
  inside : at < length text
  no_blank : is_blank (get_or text at 0) ≡ false
  no_token : (kind : TokenKind) (len : ℕ) → IsToken (drop at text) kind len → ⊥

fault-past_blank : {text : List ℕ} {from : ℕ} → from < length text → is_blank (get_or text from 0) ≡ true → FaultFrom text (from + 1) → FaultFrom text from
fault-past_blank inside b f = record {
  at = f.at;
  tokens = f.tokens;
  before = blank inside b f.before;
  inside = f.inside;
  no_blank = f.no_blank;
  no_token = f.no_token;
}

fault-past_token : {text : List ℕ} {from : ℕ} {kind : TokenKind} (len : ℕ) → IsToken (drop from text) kind len → FaultFrom text (from + len) → FaultFrom text from
fault-past_token {from = from} {kind = kind} len t f = record {
  at = f.at;
  tokens = record { kind = kind; start = from; end = from + len } ∷ f.tokens;
  before = token len t f.before;
  inside = f.inside;
  no_blank = f.no_blank;
  no_token = f.no_token;
}

abbrev LexedFrom : List ℕ → ℕ → Type 0
LexedFrom text from = ((tokens : List Token) × IsCut text from tokens (length text)) ⊎ FaultFrom text from

lexed-decided : (fuel : ℕ) (text : List ℕ) (from : ℕ) → from ≤ length text → length text - from ≤ fuel → LexedFrom text from
lexed-decided zero text from within short = let end : from ≡ length text = omega arith in inl ([], subst (IsCut text from []) end none)
lexed-decided (suc fuel) text from within short =
    ⊎_elim
    (λ inside. ⊎_elim
    (λ b. ⊎_elim
    (λ yes. inl (yes.0, blank inside b yes.1))
    (λ f. inr (fault-past_blank inside b f))
    (lexed-decided fuel text (from + 1) (omega arith) (omega arith)))
    (λ no_blank. ⊎_elim
    (λ found.
    let cut = token-ends found.2 in
    let some = cut.some in
    let room = cut.within in
    let left = length-drop from text in
    ⊎_elim
    (λ yes. inl (record { kind = found.0; start = from; end = from + found.1 } ∷ yes.0, token found.1 found.2 yes.1))
    (λ f. inr (fault-past_token found.1 found.2 f))
    (lexed-decided fuel text (from + found.1) (omega arith) (omega arith)))
    (λ no_token. inr (record { at = from; tokens = []; before = none; inside = inside; no_blank = no_blank; no_token = no_token }))
    (token-decided (drop from text) (omega (arith, length-drop from text))))
    (cases_Bool (is_blank (get_or text from 0))))
    (λ past. let end : from ≡ length text = omega arith in inl ([], subst (IsCut text from []) end none))
    (cases_lt from (length text))

pub tokens-or-fault : (text : List ℕ) → ((tokens : List Token) × IsTokens text tokens) ⊎ ((at : ℕ) × IsFault text at)
tokens-or-fault text =
    ⊎_elim
    inl
    (λ f. inr (f.at, record { tokens = f.tokens; before = f.before; inside = f.inside; no_blank = f.no_blank; no_token = f.no_token }))
    (lexed-decided (length text) text 0 (omega arith) (omega arith))
