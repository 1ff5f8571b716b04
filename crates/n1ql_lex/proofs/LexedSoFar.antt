-- The invariant of the loop in `tokens`, and what each of its steps keeps.
use Rattle.std.proofs.Common.{◌≡◌, ℕ, ◌+◌, ◌-◌, ◌<◌, ◌≤◌, true, List, [], ◌∷◌, ◌++◌, length, get_or, drop, ap, ◌∙◌, subst, append-nil, arith, length-drop, get_or-drop, drop-drop}
use Rattle.n1ql_lex.specs.declared.token.Token.{Token}
use Rattle.n1ql_lex.specs.declared.token_kind.TokenKind.{TokenKind}
use Rattle.n1ql_lex.specs.Bytes.{is_blank}
use Rattle.n1ql_lex.specs.Tokens.{IsToken, IsCut, none, blank, token}
use Rattle.n1ql_lex.proofs.TokenLemmas.{token-ends}

-- two cuts, one after the other
pub cut-append : {text : List ℕ} {from between to : ℕ} {tokens more : List Token} → IsCut text from tokens between → IsCut text between more to → IsCut text from (tokens ++ more) to
cut-append none later = later
cut-append (blank inside b c) later = blank inside b (cut-append c later)
cut-append (token len t c) later = token len t (cut-append c later)

-- the tokens so far are those of the text before the rest
pub record LexedSoFar (text : List ℕ) (tokens : List Token) (rest : List ℕ) : Type 0 where
  pub shorter : length rest ≤ length text
  pub rest_is : rest ≡ drop (length text - length rest) text
  pub cut : IsCut text 0 tokens (length text - length rest)

pub lexed-start : (text : List ℕ) → LexedSoFar text [] text
lexed-start text =
    let none_read : 0 ≡ length text - length text = omega arith in
    record {
      shorter = omega arith;
      rest_is = ap (λ n. drop n text) none_read;
      cut = subst (IsCut text 0 []) none_read none;
    }

module _ {text : List ℕ} {tokens : List Token} {rest : List ℕ} (so_far : LexedSoFar text tokens rest) where
  -- the place of the rest
  abbrev pub place : ℕ
  place = length text - length rest

  lexed-more : (n : ℕ) (more : List Token) → n ≤ length rest → IsCut text place more (place + n) → LexedSoFar text (tokens ++ more) (drop n rest)
  lexed-more n more within c =
      let shorter = so_far.shorter in
      let left = length-drop n rest in
      let places : place + n ≡ length text - length (drop n rest) = omega arith in
      record {
        shorter = omega arith;
        rest_is = ap (drop n) so_far.rest_is ∙ drop-drop n place text ∙ ap (λ m. drop m text) places;
        cut = subst (IsCut text 0 (tokens ++ more)) places (cut-append so_far.cut c);
      }

  -- the first byte of the rest, in the text
  pub byte-in_text : get_or rest 0 0 ≡ get_or text place 0
  byte-in_text =
      let at : place + 0 ≡ place = omega arith in
      ap (λ bytes. get_or bytes 0 0) so_far.rest_is ∙ get_or-drop place text 0 0 ∙ ap (λ i. get_or text i 0) at

  pub lexed-blank : 0 < length rest → is_blank (get_or rest 0 0) ≡ true → LexedSoFar text tokens (drop 1 rest)
  lexed-blank some b =
      let shorter = so_far.shorter in
      let inside : place < length text = omega arith in
      subst (λ ts. LexedSoFar text ts (drop 1 rest)) (append-nil tokens)
      (lexed-more 1 [] (omega arith) (blank inside (subst (λ c. is_blank c ≡ true) byte-in_text b) none))

  pub lexed-token : {kind : TokenKind} {len : ℕ} → IsToken rest kind len → LexedSoFar text (tokens ++ record { kind = kind; start = place; end = place + len } ∷ []) (drop len rest)
  lexed-token {kind} {len} t =
      lexed-more len _ (token-ends t).within (token len (subst (λ bytes. IsToken bytes kind len) so_far.rest_is t) none)
