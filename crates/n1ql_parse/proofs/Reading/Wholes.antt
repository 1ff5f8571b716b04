-- What a rule reads of a whole list of classes, and where a list leaves its language, for any relation.
use Rattle.std.specs.Prelude.{◌≡◌, ℕ, ◌-◌, ◌≤◌, Bool, List, [], ◌∷◌, ◌++◌, length, refl}
use Rattle.std.proofs.Common.{sym, ap, ◌∙◌, subst, append-nil}
use Rattle.n1ql_ast.specs.declared.token_class.TokenClass.{TokenClass}
use Rattle.n1ql_ast.specs.Faults.{Leaves}
use Rattle.n1ql_parse.specs.inner.Steps.{Outcome, got, stuck, Parser}
use Rattle.n1ql_parse.proofs.Reading.Prefixes.{Rel, next, Reads, Fails, Agrees}
use Rattle.n1ql_parse.proofs.Reading.Places.{leaves_at}

-- the lists that a relation reads to their end
abbrev pub FollowsOf : {A : Type 0} → Rel A → List TokenClass → Type 0
FollowsOf {A = A} R ts = (x : A) × R ts x []

module _ {A : Type 0} (goes : TokenClass → Bool) (R : Rel A) (p : Parser A) (agrees : (ts : List TokenClass) → Agrees goes R ts (p ts)) where
  agrees_if : (ts : List TokenClass) (o : Outcome A) → p ts ≡ o → Agrees goes R ts o
  agrees_if ts o e = subst (Agrees goes R ts) e (agrees ts)

  pub whole_read : (ts : List TokenClass) (x : A) → p ts ≡ got x [] → R ts x []
  whole_read ts x e =
      let r : Reads goes R ts x [] = agrees_if ts (got x []) e in
      subst (λ us. R us x []) (sym r.is) (r.sound [])

  pub whole_back : (ts : List TokenClass) (x : A) → R ts x [] → p ts ≡ got x []
  whole_back ts x h = by_outcome (p ts) (agrees ts)
    where
      by_outcome : (o : Outcome A) → Agrees goes R ts o → o ≡ got x []
      by_outcome (got y rest) r =
          let e = r.only rest [] x refl (subst (λ us. R us x []) r.is h) tt in
          ap (λ z. got z rest) (sym e.0) ∙ ap (got x) (sym e.1)
      by_outcome (stuck n) r = absurd (r.dead r.rest [] x refl (subst (λ us. R us x []) r.is h) tt)

  pub whole_stuck : (ts : List TokenClass) (left : ℕ) → p ts ≡ stuck left → (left ≤ length ts) × Leaves (FollowsOf R) ts (length ts - left)
  whole_stuck ts left e =
      let r : Fails goes R ts left = agrees_if ts (stuck left) e in
      leaves_at (FollowsOf R) ts r.front r.rest left r.is r.is_left
      (r.more, (r.tree, subst (λ us. R (r.front ++ us) r.tree []) (append-nil r.more) (r.viable [])))
      (λ us same f. r.dead us [] f.0 same f.1 tt)

  pub whole_left : (ts : List TokenClass) (x : A) (t : TokenClass) (rest : List TokenClass) → p ts ≡ got x (t ∷ rest) →
      (length (t ∷ rest) ≤ length ts) × Leaves (FollowsOf R) ts (length ts - length (t ∷ rest))
  whole_left ts x t rest e =
      let r : Reads goes R ts x (t ∷ rest) = agrees_if ts (got x (t ∷ rest)) e in
      leaves_at (FollowsOf R) ts r.front (t ∷ rest) (length (t ∷ rest)) r.is refl
      ([], (x, r.sound []))
      (λ us same f. nothing us same (r.only us [] f.0 same f.1 tt).1)
    where
      nothing : (us : List TokenClass) → next us ≡ next (t ∷ rest) → [] ≡ us → ⊥
      nothing [] same e = cc
      nothing (u ∷ us) same e = cc
