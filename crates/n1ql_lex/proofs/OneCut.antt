-- A text is cut in one way: where nothing can follow, two cuts are one.
use Rattle.std.proofs.Common.{◌≡◌, ℕ, ◌+◌, ◌<◌, ◌≤◌, true, List, [], ◌∷◌, length, get_or, drop, sym, refl, ap, ◌∙◌, subst, ⊎_elim, arith, length-drop, get_or-drop}
use Rattle.std.proofs.lemmas.Bool.{both_ways, cases_eq}
use Rattle.n1ql_lex.specs.declared.token.Token.{Token}
use Rattle.n1ql_lex.specs.declared.token_kind.TokenKind.{TokenKind}
use Rattle.n1ql_lex.specs.Bytes.{is_blank}
use Rattle.n1ql_lex.specs.Spans.{SpansGrow, AreBlanks, BlanksBetween}
use Rattle.n1ql_lex.specs.Tokens.{IsToken, IsCut, IsTokens, IsFault, none, blank, token}
use Rattle.n1ql_lex.proofs.TokenLemmas.{token-ends, token-same, blank-no_token}

-- neither a blank nor a token stands there
record Stops (text : List ℕ) (at : ℕ) : Type 0 where
  no_blank : at < length text → is_blank (get_or text at 0) ≡ true → ⊥
  no_token : (kind : TokenKind) (len : ℕ) → IsToken (drop at text) kind len → ⊥

end-stops : (text : List ℕ) → Stops text (length text)
end-stops text = record {
  no_blank = λ inside b. absurd (omega arith);
  no_token = λ kind len t. let some = t.some in absurd (omega (arith, length-drop (length text) text));
}

fault-stops : {text : List ℕ} {at : ℕ} → IsFault text at → Stops text at
fault-stops f = record {
  no_blank = λ inside b. both_ways _ f.no_blank b;
  no_token = f.no_token;
}

-- the first byte behind a place
pub byte_at : (text : List ℕ) (at : ℕ) → get_or (drop at text) 0 0 ≡ get_or text at 0
byte_at text at = let place : at + 0 ≡ at = omega arith in get_or-drop at text 0 0 ∙ ap (λ i. get_or text i 0) place

-- no token stands at a blank
apart : (text : List ℕ) (at : ℕ) (kind : TokenKind) (len : ℕ) → is_blank (get_or text at 0) ≡ true → IsToken (drop at text) kind len → ⊥
apart text at kind len b t = blank-no_token (subst (λ c. is_blank c ≡ true) (sym (byte_at text at)) b) t

cut-same : {text : List ℕ} {from to end : ℕ} {tokens others : List Token} → Stops text to → Stops text end →
    IsCut text from tokens to → IsCut text from others end → (tokens ≡ others) × (to ≡ end)
cut-same stop halt none none = (refl, refl)
cut-same stop halt none (blank inside b d) = absurd (stop.no_blank inside b)
cut-same stop halt none (token len t d) = absurd (stop.no_token _ len t)
cut-same stop halt (blank inside b c) none = absurd (halt.no_blank inside b)
cut-same stop halt (blank inside b c) (blank _ _ d) = cut-same stop halt c d
cut-same {text} stop halt (blank {at = at} inside b c) (token len t d) = absurd (apart text at _ len b t)
cut-same stop halt (token len t c) none = absurd (halt.no_token _ len t)
cut-same {text} stop halt (token {at = at} len t c) (blank inside b d) = absurd (apart text at _ len b t)
cut-same {text} {end = end} stop halt (token {at = at} {kind = kind} {tokens = tokens} len t c) (token {kind = other} {tokens = others} more u d) =
    let same = token-same t u in
    let later = cut-same stop halt c (subst (λ n. IsCut text (at + n) others end) (sym same.1) d) in
    ((λ i. record { kind = same.0 i; start = at; end = at + same.1 i } ∷ later.0 i), later.1)

pub tokens-same : (text : List ℕ) (tokens others : List Token) → IsTokens text tokens → IsTokens text others → tokens ≡ others
tokens-same text tokens others c d = (cut-same (end-stops text) (end-stops text) c d).0

pub fault-same : (text : List ℕ) (at other : ℕ) → IsFault text at → IsFault text other → at ≡ other
fault-same text at other f g = (cut-same (fault-stops f) (fault-stops g) f.before g.before).1

pub never-both : (text : List ℕ) (tokens : List Token) (at : ℕ) → IsTokens text tokens → IsFault text at → ⊥
never-both text tokens at c f =
    let same = (cut-same (end-stops text) (fault-stops f) c f.before).1 in
    let inside = f.inside in
    absurd (omega arith)

-- places of a cut, in order
cut-grows : {text : List ℕ} {from to : ℕ} {tokens : List Token} → IsCut text from tokens to → SpansGrow from tokens to
cut-grows none = omega arith
cut-grows (blank {at = at} {to = to} {tokens = tokens} inside b c) = sooner at (at + 1) tokens to (omega arith) (cut-grows c)
  where
    sooner : (low from : ℕ) (tokens : List Token) (to : ℕ) → low ≤ from → SpansGrow from tokens to → SpansGrow low tokens to
    sooner low from [] to le h = omega arith
    sooner low from (t ∷ ts) to le h = let first = h.0 in (omega arith, h.1, h.2)
cut-grows (token {at = at} len t c) = let some = (token-ends t).some in (omega arith, omega arith, cut-grows c)

pub tokens-grow : (text : List ℕ) (tokens : List Token) → IsTokens text tokens → SpansGrow 0 tokens (length text)
tokens-grow text tokens c = cut-grows c

-- blanks from a place on, and one before it
one_more : (text : List ℕ) (from to : ℕ) → is_blank (get_or text from 0) ≡ true → AreBlanks text (from + 1) to → AreBlanks text from to
one_more text from to b later at low high =
    ⊎_elim
    (λ same. subst (λ i. is_blank (get_or text i 0) ≡ true) same b)
    (λ other. later at (omega arith) high)
    (cases_eq from at)

cut-blanks : {text : List ℕ} {from to : ℕ} {tokens : List Token} → IsCut text from tokens to → BlanksBetween text from tokens to
cut-blanks none = λ at low high. absurd (omega arith)
cut-blanks {text} (blank {at = at} {to = to} {tokens = tokens} inside b c) = first tokens (cut-blanks c)
  where
    first : (tokens : List Token) → BlanksBetween text (at + 1) tokens to → BlanksBetween text at tokens to
    first [] h = one_more text at to b h
    first (t ∷ ts) h = (one_more text at t.start b h.0, h.1)
cut-blanks (token {at = at} len t c) = ((λ place low high. absurd (omega arith)), cut-blanks c)

pub tokens-blanks : (text : List ℕ) (tokens : List Token) → IsTokens text tokens → BlanksBetween text 0 tokens (length text)
tokens-blanks text tokens c = cut-blanks c
