-- The sign at the front stands there, and is ASCII.
use Rattle.std.proofs.Common.{◌≡◌, ℕ, ◌<◌, true, cond, List, [], ◌∷◌, length, take, refl, arith}
use Rattle.std.proofs.lemmas.Bool.{cond_both}
use Rattle.std.proofs.lemmas.Bool.Decides.{nat_tests}
use Rattle.n1ql_lex.specs.Signs.{is_sign, is_sign_of_two, sign_of}
use Rattle.n1ql_lex.proofs.Cuts.{EndsInAscii}

is_sign-ascii : (b : ℕ) → is_sign b ≡ true → b < 128
is_sign-ascii b h = grind (arith, nat_tests)

is_sign_of_two-ascii : (a b : ℕ) → is_sign_of_two a b ≡ true → b < 128
is_sign_of_two-ascii a b h = grind (arith, nat_tests)

pub data SignFits (text : List ℕ) : List ℕ → Type 0 where
  no_sign : SignFits text []
  sign_stands : {sign : List ℕ} → EndsInAscii text (length sign) → sign ≡ take (length sign) text → SignFits text sign

one-fits : (a : ℕ) (rest : List ℕ) → SignFits (a ∷ rest) (cond (is_sign a) (a ∷ []) [])
one-fits a rest =
    cond_both (is_sign a) (a ∷ []) [] (SignFits (a ∷ rest))
    (λ h. sign_stands (record { some = omega arith; within = omega arith; ascii = is_sign-ascii a h }) refl)
    (λ _. no_sign)

pub sign_of-fits : (text : List ℕ) → SignFits text (sign_of text)
unfolding sign_of
sign_of-fits [] = no_sign
sign_of-fits (a ∷ []) = one-fits a []
sign_of-fits (a ∷ b ∷ rest) =
    cond_both (is_sign_of_two a b) (a ∷ b ∷ []) (cond (is_sign a) (a ∷ []) []) (SignFits (a ∷ b ∷ rest))
    (λ h. sign_stands (record { some = omega arith; within = omega arith; ascii = is_sign_of_two-ascii a b h }) refl)
    (λ _. one-fits a (b ∷ rest))

-- a sign stands for itself, and the text may be cut behind it
pub sign-stands : {text sign : List ℕ} → SignFits text sign → 0 < length sign → (sign ≡ take (length sign) text) × EndsInAscii text (length sign)
sign-stands no_sign some = absurd (omega arith)
sign-stands (sign_stands ends is) some = (is, ends)
