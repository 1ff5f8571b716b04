-- Numbers in decimal, each of which ends where a byte stands that is no digit.
use Rattle.std.proofs.Common.{◌≡◌, ℕ, zero, suc, ◌+◌, ◌/◌, ◌%◌, ◌^◌, ◌<◌, ◌≤◌, Bool, true, false, cond, eqb, ltb, List, [], ◌∷◌, ◌++◌, refl, sym, ap, ◌∙◌, subst, decimal, arith}
use Rattle.std.specs.List.{AllByRecursion}
use Rattle.std.proofs.lemmas.Bool.{ltb-false}
use Rattle.std.proofs.lemmas.Fmt.{decimal_is_IsNumeral_wide}
use Rattle.std.specs.Fmt.{digit_glyph, digits_onto, digits}
use Rattle.std.specs.Str.Parse.{digits_value}

-- a byte is a digit
abbrev pub IsDigit : ℕ → Type 0
IsDigit x = (48 ≤ x) × (x < 58)

abbrev pub AreDigits : List ℕ → Type 0
AreDigits ds = AllByRecursion IsDigit ds

glyph : (d : ℕ) → d < 10 → IsDigit (digit_glyph false d)
glyph d h = by (ltb d 10) refl
  where
    by : (b : Bool) → ltb d 10 ≡ b → IsDigit (cond b (48 + d) (87 + d))
    by true e = (omega arith, omega arith)
    by false e = absurd (omega (arith, ltb-false d 10 e))

either : (b : Bool) (xs ys : List ℕ) → AreDigits xs → AreDigits ys → AreDigits (cond b xs ys)
either true xs ys p q = p
either false xs ys p q = q

onto : (k n : ℕ) (acc : List ℕ) → AreDigits acc → AreDigits (digits_onto k 10 false n acc)
onto zero n acc all = all
onto (suc k) n acc all =
    let more : AreDigits (digit_glyph false (n % 10) ∷ acc) = (glyph (n % 10) (omega arith), all) in
    either (eqb (n / 10) 0) (digit_glyph false (n % 10) ∷ acc) (digits_onto k 10 false (n / 10) (digit_glyph false (n % 10) ∷ acc)) more (onto k (n / 10) (digit_glyph false (n % 10) ∷ acc) more)

pub decimal_digits : (n : ℕ) → AreDigits (decimal n)
unfolding digits
decimal_digits n = onto 64 n [] tt

-- texts of digits that are followed by something else
pub cut : (a b r s : List ℕ) (x y : ℕ) → AreDigits a → AreDigits b → (IsDigit x → ⊥) → (IsDigit y → ⊥) → a ++ x ∷ r ≡ b ++ y ∷ s → (a ≡ b) × (x ∷ r ≡ y ∷ s)
cut [] [] r s x y da db nx ny e = (refl, e)
cut [] (d ∷ b) r s x y da db nx ny e = let same : x ≡ d = cc in absurd (nx (subst IsDigit (sym same) db.0))
cut (d ∷ a) [] r s x y da db nx ny e = let same : d ≡ y = cc in absurd (ny (subst IsDigit same da.0))
cut (c ∷ a) (d ∷ b) r s x y da db nx ny e =
    let same : c ≡ d = cc in
    let rest : a ++ x ∷ r ≡ b ++ y ∷ s = cc in
    let parts = cut a b r s x y da.1 db.1 nx ny rest in
    let whole : c ∷ a ≡ d ∷ b = let p = parts.0 in cc in
    (whole, parts.1)

-- `decimal` tells numbers of at most 64 digits
abbrev pub IsWritten : ℕ → Type 0
IsWritten n = n < 10 ^ 64

pub decimal_tells : (m n : ℕ) → IsWritten m → IsWritten n → decimal m ≡ decimal n → m ≡ n
decimal_tells m n p q e = sym (decimal_is_IsNumeral_wide m p).1 ∙ (ap (digits_value 10) e ∙ (decimal_is_IsNumeral_wide n q).1)

pub after_decimal : (m n : ℕ) (r s : List ℕ) (x y : ℕ) → (IsDigit x → ⊥) → (IsDigit y → ⊥) → decimal m ++ x ∷ r ≡ decimal n ++ y ∷ s → (decimal m ≡ decimal n) × (x ∷ r ≡ y ∷ s)
after_decimal m n r s x y nx ny e = cut (decimal m) (decimal n) r s x y (decimal_digits m) (decimal_digits n) nx ny e

pub read_decimal : (m n : ℕ) (r s : List ℕ) (x y : ℕ) → IsWritten m → IsWritten n → (IsDigit x → ⊥) → (IsDigit y → ⊥) → decimal m ++ x ∷ r ≡ decimal n ++ y ∷ s → (m ≡ n) × (x ∷ r ≡ y ∷ s)
read_decimal m n r s x y p q nx ny e =
    let parts = after_decimal m n r s x y nx ny e in
    (decimal_tells m n p q parts.0, parts.1)
