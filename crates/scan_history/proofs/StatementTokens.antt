-- The tokens of the one statement that is built so far.
use Rattle.std.proofs.Common.{◌≡◌, ℕ, suc, zero, ◌+◌, ◌<◌, ◌≤◌, Bool, true, false, List, [], ◌∷◌, length, None, refl, sym, ap, ◌∙◌, subst, arith, inl, inr}
use Rattle.std.specs.Prelude.{codes, slice_index, drop, take, if◌then◌else◌}
use Rattle.std.specs.List.{list_all, range_with_len}
use Rattle.std.proofs.lemmas.Bool.{cases_lt, and_parts}
use Rattle.n1ql_lex.specs.declared.token.Token.{Token}
use Rattle.n1ql_lex.specs.declared.opening.Opening.{Opening}
use Rattle.n1ql_lex.specs.declared.opening.Opening.TheVariants as opening
use Rattle.n1ql_lex.specs.declared.token_kind.TokenKind.{TokenKind}
use Rattle.n1ql_lex.specs.declared.token_kind.TokenKind.TheVariants.{Word, Name, Sign}
use Rattle.n1ql_lex.specs.Bytes.{opening_of, is_word_byte, is_blank}
use Rattle.n1ql_lex.specs.Words.{reserved_word_of, kind_of_word, word_of}
use Rattle.n1ql_lex.specs.Signs.{sign_of}
use Rattle.scan_history.proofs.StatementForm.{statement_on}
use Rattle.n1ql_lex.specs.Tokens.{IsToken, IsTokenOf, IsCut, IsTokens, none, blank, token}

-- what holds of each of n numbers from a on
pub each_of : (p : ℕ → Bool) (a n : ℕ) → list_all p (range_with_len a n) ≡ true → (k : ℕ) → a ≤ k → k < a + n → p k ≡ true
each_of p a zero all k low high = absurd (omega arith)
each_of p a (suc n) all k low high =
    elim (cases_lt a k) [
      | inl less ↦ each_of p (a + 1) n (and_parts (p a) (list_all p (range_with_len (a + 1) n)) all).1 k (omega arith) (omega arith)
      | inr le ↦ ap p (omega arith) ∙ (and_parts (p a) (list_all p (range_with_len (a + 1) n)) all).0
    ]

abbrev pub token_of : TokenKind → ℕ → ℕ → Token
token_of kind start end = record { kind = kind; start = start; end = end }

abbrev pub tokens_on : ℕ → List Token
tokens_on letter =
    token_of (Word (codes "CREATE")) 0 6 ∷ token_of (Word (codes "INDEX")) 7 12 ∷ token_of (Name (codes "ix") false) 13 15 ∷
    token_of (Word (codes "ON")) 16 18 ∷ token_of (Name (codes "ks") false) 19 21 ∷ token_of (Sign (codes "(")) 21 22 ∷
    token_of (Name (letter ∷ []) false) 22 23 ∷ token_of (Sign (codes ")")) 23 24 ∷ []

-- one more token before others, and one more blank
pub one : (text : List ℕ) (end at : ℕ) (kind : TokenKind) (len : ℕ) (more : List Token) → IsToken (drop at text) kind len →
    IsCut text (at + len) more end → IsCut text at (token_of kind at (at + len) ∷ more) end
one text end at kind len more t rest = token len t rest

pub gap : (text : List ℕ) (end at : ℕ) (more : List Token) → at < length text → is_blank (slice_index text at) ≡ true → IsCut text (at + 1) more end → IsCut text at more end
gap text end at more inside is rest = blank inside (is) rest

create_word : (letter : ℕ) → IsToken (drop 0 (statement_on letter)) (Word (codes "CREATE")) 6
unfolding opening_of reserved_word_of
create_word letter = record { some = omega arith; token = (refl, refl) }

index_word : (letter : ℕ) → IsToken (drop 7 (statement_on letter)) (Word (codes "INDEX")) 5
unfolding opening_of reserved_word_of
index_word letter = record { some = omega arith; token = (refl, refl) }

name_word : (letter : ℕ) → IsToken (drop 13 (statement_on letter)) (Name (codes "ix") false) 2
unfolding opening_of reserved_word_of
name_word letter = record { some = omega arith; token = (refl, refl) }

open_sign : (letter : ℕ) → IsToken (drop 21 (statement_on letter)) (Sign (codes "(")) 1
unfolding opening_of sign_of
open_sign letter = record { some = omega arith; token = ((λ e. absurd (cc)), refl, refl) }

close_sign : (letter : ℕ) → IsToken (drop 23 (statement_on letter)) (Sign (codes ")")) 1
unfolding opening_of sign_of
close_sign letter = record { some = omega arith; token = ((λ e. absurd (cc)), refl, refl) }

on_word : (letter : ℕ) → IsToken (drop 16 (statement_on letter)) (Word (codes "ON")) 2
unfolding opening_of reserved_word_of
on_word letter = record { some = omega arith; token = (refl, refl) }

keyspace_word : (letter : ℕ) → IsToken (drop 19 (statement_on letter)) (Name (codes "ks") false) 2
unfolding opening_of reserved_word_of
keyspace_word letter = record { some = omega arith; token = (refl, refl) }

letter_word : (letter : ℕ) → opening_of letter ≡ opening.Word → is_word_byte letter ≡ true → reserved_word_of (letter ∷ []) ≡ None →
    IsToken (drop 22 (statement_on letter)) (Name (letter ∷ []) false) 1
letter_word letter o w r =
    record {
      some = omega arith;
      token = subst (λ (x : Opening). IsTokenOf x (letter ∷ codes ")") (Name (letter ∷ []) false) 1) (sym o)
          (ap (kind_of_word (letter ∷ [])) (sym r) ∙ sym (ap (λ v. kind_of_word v (reserved_word_of v)) word), sym (ap length word));
    }
  where
    word : word_of (letter ∷ codes ")") ≡ letter ∷ []
    word = ap (λ b. take (if b then 1 else 0) (letter ∷ codes ")")) w

pub tokens_of_statement : (letter : ℕ) → opening_of letter ≡ opening.Word → is_word_byte letter ≡ true → reserved_word_of (letter ∷ []) ≡ None →
    IsTokens (statement_on letter) (tokens_on letter)
tokens_of_statement letter o w r =
    one (statement_on letter) 24 0 _ 6 _ (create_word letter)
    (gap (statement_on letter) 24 6 _ (omega arith) refl
    (one (statement_on letter) 24 7 _ 5 _ (index_word letter)
    (gap (statement_on letter) 24 12 _ (omega arith) refl
    (one (statement_on letter) 24 13 _ 2 _ (name_word letter)
    (gap (statement_on letter) 24 15 _ (omega arith) refl
    (one (statement_on letter) 24 16 _ 2 _ (on_word letter)
    (gap (statement_on letter) 24 18 _ (omega arith) refl
    (one (statement_on letter) 24 19 _ 2 _ (keyspace_word letter)
    (one (statement_on letter) 24 21 _ 1 _ (open_sign letter)
    (one (statement_on letter) 24 22 _ 1 _ (letter_word letter o w r)
    (one (statement_on letter) 24 23 _ 1 _ (close_sign letter) none)))))))))))
