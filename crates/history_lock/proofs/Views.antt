-- Lists of views in which one changes or to which one is added.
use Rattle.std.proofs.Common.{◌≡◌, ◌≢◌, ℕ, zero, suc, ◌⊎◌, false, true≢false, List, [], ◌∷◌, ◌++◌, length, set, Some, sym, refl, ap, ◌∙◌, subst, ⊎_elim, inl, inr, Option}
use mathlib.Core.Option.{some, none, some-injective, some-ne-none}
use mathlib.Core.Option as maybe
use lib.ListN.{get_elem?}
use Rattle.atomic_table.proofs.Lists.{at_set, set_else, at_longer}
use Rattle.history_lock.specs.declared.view.View.{View}
use Rattle.history_lock.specs.Rule.{Turn}
use Rattle.history_lock.specs.Rule.Turn.{free, held}

module _ {A : Type 0} where
  pub at_end : (l : List A) (a b : A) (j : ℕ) → get_elem? (l ++ a ∷ []) j ≡ some b → (get_elem? l j ≡ some b) ⊎ ((j ≡ length l) × (a ≡ b))
  at_end [] a b zero e = inr (refl, some-injective a b e)
  at_end [] a b (suc j) e = absurd (some-ne-none b (sym e))
  at_end (x ∷ xs) a b zero e = inl e
  at_end (x ∷ xs) a b (suc j) e = ⊎_elim (λ (t : get_elem? xs j ≡ some b). inl t) (λ (t : (j ≡ length xs) × (a ≡ b)). inr (ap suc t.0, t.1)) (at_end xs a b j e)

  pub put_here : (l : List A) (i : ℕ) (a b : A) → get_elem? l i ≡ some a → get_elem? (set l i b) i ≡ some b
  put_here [] i a b e = absurd (some-ne-none a (sym e))
  put_here (x ∷ xs) zero a b e = refl
  put_here (x ∷ xs) (suc i) a b e = put_here xs i a b e

  pub same_at : (l : List A) (i j : ℕ) (a b : A) → get_elem? l i ≡ some a → get_elem? l j ≡ some b → i ≡ j → a ≡ b
  same_at l i j a b ei ej is = some-injective a b (sym ei ∙ (ap (get_elem? l) is ∙ ej))

  pub each_set : (K : A → Type 0) (vs : List A) (id : ℕ) (w : A) → K w → ((j : ℕ) (u : A) → j ≢ id → get_elem? vs j ≡ some u → K u)
      → (j : ℕ) (u : A) → get_elem? (set vs id w) j ≡ some u → K u
  each_set K vs id w mine others j u e = ⊎_elim (λ (t : (j ≡ id) × (w ≡ u)). subst K t.1 mine) (λ (t : (j ≢ id) × (get_elem? vs j ≡ some u)). others j u t.0 t.1) (at_set vs id j w u e)

  pub each_snoc : (K : A → Type 0) (vs : List A) (o : A) → K o → ((j : ℕ) (u : A) → get_elem? vs j ≡ some u → K u) → (j : ℕ) (u : A) → get_elem? (vs ++ o ∷ []) j ≡ some u → K u
  each_snoc K vs o mine others j u e = ⊎_elim (λ (t : get_elem? vs j ≡ some u). others j u t) (λ (t : (j ≡ length vs) × (o ≡ u)). subst K t.1 mine) (at_end vs o u j e)

module _ {E : Type 0} where
  -- no two views have one party
  abbrev pub Apart : List (View E) → Type 0
  Apart vs = (i j p : ℕ) (v w : View E) → get_elem? vs i ≡ some v → get_elem? vs j ≡ some w → v.party ≡ Some p → w.party ≡ Some p → i ≡ j

  pub named_before : (vs : List (View E)) (id j p : ℕ) (v w u : View E) → get_elem? vs id ≡ some v → ((q : ℕ) → w.party ≡ Some q → v.party ≡ Some q) → get_elem? (set vs id w) j ≡ some u → u.party ≡ Some p
      → (u' : View E) × (get_elem? vs j ≡ some u') × (u'.party ≡ Some p)
  named_before vs id j p v w u at keep e is = ⊎_elim
      (λ (t : (j ≡ id) × (w ≡ u)). (v, subst (λ (k : ℕ). get_elem? vs k ≡ some v) (sym t.0) at, keep p (ap (λ z. z.party) t.1 ∙ is)))
      (λ (t : (j ≢ id) × (get_elem? vs j ≡ some u)). (u, t.1, is))
      (at_set vs id j w u e)

  pub apart_set : (vs : List (View E)) (id : ℕ) (v w : View E) → get_elem? vs id ≡ some v → ((q : ℕ) → w.party ≡ Some q → v.party ≡ Some q) → Apart vs → Apart (set vs id w)
  apart_set vs id v w at keep apart i j p a b ei ej ia ib =
      let x = named_before vs id i p v w a at keep ei ia in
      let y = named_before vs id j p v w b at keep ej ib in
      apart i j p x.0 y.0 x.1 y.1 x.2 y.2

  pub apart_snoc : (vs : List (View E)) (o : View E) → ((j p : ℕ) (u : View E) → get_elem? vs j ≡ some u → u.party ≡ Some p → o.party ≡ Some p → ⊥) → Apart vs → Apart (vs ++ o ∷ [])
  apart_snoc vs o new apart i j p a b ei ej ia ib = ⊎_elim
      (λ (ti : get_elem? vs i ≡ some a). ⊎_elim
      (λ (tj : get_elem? vs j ≡ some b). apart i j p a b ti tj ia ib)
      (λ (tj : (j ≡ length vs) × (o ≡ b)). absurd (new i p a ti ia (ap (λ z. z.party) tj.1 ∙ ib)))
      (at_end vs o b j ej))
      (λ (ti : (i ≡ length vs) × (o ≡ a)). ⊎_elim
      (λ (tj : get_elem? vs j ≡ some b). absurd (new j p b tj ib (ap (λ z. z.party) ti.1 ∙ ia)))
      (λ (tj : (j ≡ length vs) × (o ≡ b)). ti.0 ∙ sym tj.0)
      (at_end vs o b j ej))
      (at_end vs o a i ei)

  module _ {S : Type 0} (events : S → List E) (word : ℕ) (homes : List (maybe.Option (Option S))) (whole : List E) where
    -- a view that holds no turn may change to another that holds none
    pub turn_set : (vs : List (View E)) (id : ℕ) (v w : View E) → get_elem? vs id ≡ some v → v.turn ≡ false → w.turn ≡ false → Turn events word homes vs whole → Turn events word homes (set vs id w) whole
    turn_set vs id v w at quiet now (free z x home is idle) = free z x home is (each_set (λ u. u.turn ≡ false) vs id w now (λ j u _ e. idle j u e))
    turn_set vs id v w at quiet now (held z out h u ah on seen others) =
        let off : h ≢ id = λ e. true≢false (sym on ∙ (ap (λ y. y.turn) (same_at vs h id u v ah at e) ∙ quiet)) in
        held z out h u (set_else vs id h w off ∙ ah) on seen (λ j y other e. ⊎_elim (λ (t : (j ≡ id) × (w ≡ y)). sym (ap (λ q. q.turn) t.1) ∙ now) (λ (t : (j ≢ id) × (get_elem? vs j ≡ some y)). others j y other t.1) (at_set vs id j w y e))

    -- a view that holds no turn may come
    pub turn_snoc : (vs : List (View E)) (o : View E) → o.turn ≡ false → Turn events word homes vs whole → Turn events word homes (vs ++ o ∷ []) whole
    turn_snoc vs o quiet (free z x home is idle) = free z x home is (each_snoc (λ u. u.turn ≡ false) vs o quiet idle)
    turn_snoc vs o quiet (held z out h u ah on seen others) =
        held z out h u (at_longer vs (o ∷ []) h u ah) on seen (λ j y other e. ⊎_elim (λ (t : get_elem? vs j ≡ some y). others j y other t) (λ (t : (j ≡ length vs) × (o ≡ y)). sym (ap (λ q. q.turn) t.1) ∙ quiet) (at_end vs o y j e))
