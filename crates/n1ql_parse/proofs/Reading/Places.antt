-- Where tokens leave a language, from the front that was read.
use Rattle.std.specs.Prelude.{◌≡◌, ℕ, zero, suc, ◌+◌, ◌-◌, ◌<◌, ◌≤◌, List, [], ◌∷◌, ◌++◌, length, take, drop, refl}
use Rattle.std.proofs.Common.{sym, ap, ◌∙◌, subst, append_assoc, length-append, arith}
use Rattle.n1ql_ast.specs.declared.token_class.TokenClass.{TokenClass}
use Rattle.n1ql_ast.specs.Faults.{Begins, Leaves}
use Rattle.n1ql_parse.proofs.Reading.Prefixes.{next}

-- a front of a front goes on to it
front_of : (n : ℕ) (front rest more : List TokenClass) → n ≤ length front → take n (front ++ rest) ++ (drop n front ++ more) ≡ front ++ more
front_of zero front rest more h = refl
front_of (suc n) [] rest more h = absurd (omega arith)
front_of (suc n) (t ∷ front) rest more h = ap (λ ts. t ∷ ts) (front_of n front rest more (omega arith))

with_next : (front rest : List TokenClass) (t : TokenClass) → take (suc (length front)) (front ++ t ∷ rest) ≡ front ++ t ∷ []
with_next [] rest t = refl
with_next (u ∷ front) rest t = ap (λ ts. u ∷ ts) (with_next front rest t)

-- the front can be completed, and with the next token it can't
pub leaves : (Follows : List TokenClass → Type 0) (front rest : List TokenClass) → Begins Follows front → ((us : List TokenClass) → next us ≡ next rest → Follows (front ++ us) → ⊥) →
    Leaves Follows (front ++ rest) (length front)
leaves Follows front rest b dead = record {
  within = (let e = length-append front rest in omega arith);
  before = λ n h. (drop n front ++ b.0, subst Follows (sym (front_of n front rest b.0 h)) b.1);
  here = here rest dead;
  past = past rest dead;
}
  where
    no_more : (t : TokenClass) (rest : List TokenClass) → ((us : List TokenClass) → next us ≡ next (t ∷ rest) → Follows (front ++ us) → ⊥) → Begins Follows (take (length front + 1) (front ++ t ∷ rest)) → ⊥
    no_more t rest dead c =
        let e : length front + 1 ≡ suc (length front) = omega arith in
        let f : Follows (take (suc (length front)) (front ++ t ∷ rest) ++ c.0) = subst (λ n. Follows (take n (front ++ t ∷ rest) ++ c.0)) e c.1 in
        let k : Follows ((front ++ t ∷ []) ++ c.0) = subst (λ ts. Follows (ts ++ c.0)) (with_next front rest t) f in
        dead (t ∷ c.0) refl (subst Follows (append_assoc front (t ∷ []) c.0) k)

    here : (rest : List TokenClass) → ((us : List TokenClass) → next us ≡ next rest → Follows (front ++ us) → ⊥) → length front < length (front ++ rest) → ¬ Begins Follows (take (length front + 1) (front ++ rest))
    here [] dead h = let e = length-append front [] in absurd (omega arith)
    here (t ∷ rest) dead h = no_more t rest dead

    past : (rest : List TokenClass) → ((us : List TokenClass) → next us ≡ next rest → Follows (front ++ us) → ⊥) → length front ≡ length (front ++ rest) → ¬ Follows (front ++ rest)
    past [] dead h = dead [] refl
    past (t ∷ rest) dead h = let e = length-append front (t ∷ rest) in absurd (omega arith)

-- the same of tokens whose rest has this length
pub leaves_at : (Follows : List TokenClass → Type 0) (ts front rest : List TokenClass) (left : ℕ) → ts ≡ front ++ rest → length rest ≡ left → Begins Follows front →
    ((us : List TokenClass) → next us ≡ next rest → Follows (front ++ us) → ⊥) → (left ≤ length ts) × Leaves Follows ts (length ts - left)
leaves_at Follows ts front rest left is count b dead =
    let e : length ts ≡ length front + length rest = ap length is ∙ length-append front rest in
    let at : length front ≡ length ts - left = omega arith in
    (omega arith, subst (Leaves Follows ts) at (subst (λ us. Leaves Follows us (length front)) (sym is) (leaves Follows front rest b dead)))
