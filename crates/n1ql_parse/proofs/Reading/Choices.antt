-- Rules that try one keyword after the other.
use Rattle.std.specs.Prelude.{◌≡◌, ℕ, zero, suc, ◌≤◌, Bool, true, nat_le, if◌then◌else◌, List, [], ◌∷◌}
use Rattle.std.proofs.Common.{arith}
use Rattle.std.proofs.lemmas.Bool.{leb-true, le-leb}
use Rattle.n1ql_ast.specs.declared.token_class.TokenClass.{TokenClass}
use Rattle.n1ql_ast.specs.declared.token_class.TokenClass.TheVariants.{Keyword}
use Rattle.n1ql_ast.specs.declared.keyword.Keyword.{Keyword as AnyKeyword}
use Rattle.n1ql_parse.specs.inner.Steps.{Parser, and_then, eat, expect}
use Rattle.n1ql_parse.proofs.Reading.Prefixes.{Rel, Stops, Within, Completes, Either, one, other}
use Rattle.n1ql_parse.proofs.Reading.Combined.{within_less}
use Rattle.n1ql_parse.proofs.Reading.Looks.{Then, behind, within_expect, within_eat}

-- the next token, if there is one, stands at the place i of an order of tokens or behind it
abbrev pub IsFrom : (TokenClass → ℕ) → ℕ → List TokenClass → Type 0
IsFrom order i [] = Unit {0}
IsFrom order i (t ∷ ts) = nat_le i (order t) ≡ true

-- A rule whose relation reads only what begins from this place on.
pub record Choice {A : Type 0} (order : TokenClass → ℕ) (i n : ℕ) (goes : TokenClass → Bool) (S : Rel A) (q : Parser A) : Type 0 where
  pub within : Within n goes S q
  pub begins : (us vs : List TokenClass) (y : A) → S us y vs → Stops goes vs → IsFrom order i us

from_less : (order : TokenClass → ℕ) (i : ℕ) (us : List TokenClass) → IsFrom order (suc i) us → IsFrom order i us
from_less order i [] h = tt
from_less order i (t ∷ us) h = le-leb i (order t) (let k : suc i ≤ order t = leb-true (suc i) (order t) h in omega arith)

-- a keyword that stands right before what is left to try
pub choice_eat : {A : Type 0} {n i : ℕ} {order : TokenClass → ℕ} {goes : TokenClass → Bool} (m : AnyKeyword) {R S : Rel A} {p q : Parser A} → order (Keyword m) ≡ i →
    Within n goes R p → Choice order (suc i) (suc n) goes S q →
    Choice order i (suc n) goes (Either (Then m R) S) (λ ts. and_then (eat m ts) (λ found. if found then p else q))
choice_eat {A = A} {i = i} {order = order} {goes = goes} m {R = R} {S = S} at w c = record {
  within = within_eat m w c.within (λ us vs y r st.
      let k : suc i ≤ order (Keyword m) = leb-true (suc i) (order (Keyword m)) (c.begins (Keyword m ∷ us) vs y r st) in omega arith);
  begins = go;
}
  where
    go : (us vs : List TokenClass) (y : A) → Either (Then m R) S us y vs → Stops goes vs → IsFrom order i us
    go _ vs y (one (behind r)) st = le-leb i (order (Keyword m)) (omega arith)
    go us vs y (other r) st = from_less order i us (c.begins us vs y r st)

-- where no turn is taken
pub within_then : {A : Type 0} {n : ℕ} {goes : TokenClass → Bool} (m : AnyKeyword) {R : Rel A} {f : Unit {0} → Parser A} → Within n goes R (f tt) → Completes R →
    Within n goes (Then m R) (λ ts. and_then (expect m ts) f)
within_then m w k = within_less (omega arith) (within_expect m w k)

pub within_may : {A : Type 0} {n : ℕ} {goes : TokenClass → Bool} (m : AnyKeyword) {R S : Rel A} {p q : Parser A} → Within n goes R p → Within n goes S q →
    ((us vs : List TokenClass) (y : A) → S (Keyword m ∷ us) y vs → Stops goes vs → ⊥) →
    Within n goes (Either (Then m R) S) (λ ts. and_then (eat m ts) (λ found. if found then p else q))
within_may {n = zero} m w z off = record { agrees = λ ts h. absurd (omega arith) }
within_may {n = suc n} m w z off = within_eat m (within_less (omega arith) w) z off
