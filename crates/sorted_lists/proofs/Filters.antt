-- What passes a test, of a list in order.
use Rattle.std.proofs.Common.{◌≡◌, ℕ, suc, ◌<◌, Bool, true, false, cond, List, [], ◌∷◌, length, get_or, refl, sym, ap, ◌∙◌, arith}
use Rattle.std.specs.Cmp.{IsTotalOrder, upto}
use Rattle.std.specs.List.{filter}
use Rattle.std.specs.List.Sorted.{IsSorted}
use Rattle.std.proofs.lemmas.List.Sorted.{sorted_far, ranks_by}
use Rattle.std.specs.Ordering.{is_lt, is_gt}
use Rattle.std.specs.declared.cmp.Ordering.{Ordering}
use Rattle.sorted_lists.specs.SortedLists.{insert_sorted, sort_of}
use Rattle.sorted_lists.proofs.Orderings.{turned}
use Rattle.sorted_lists.proofs.InOrder.{IsSorted-tail, IsSorted-sort_of}

module _ {X : Type 0} {R : X → X → Ordering} (o : IsTotalOrder R) where
  -- x is not above y, and so not above what stands behind y
  not_lt_far : (x y : X) (ys : List X) → is_gt (R x y) ≡ false → IsSorted R (y ∷ ys) → (k : ℕ) (d : X) → k < length (y ∷ ys) → is_lt (R (get_or (y ∷ ys) k d) x) ≡ false
  not_lt_far x y ys e s k d h =
      let far = sorted_far _ (ranks_by o (λ z. z)) (y ∷ ys) s 0 k d (omega arith) h in
      sym (turned o x (get_or (y ∷ ys) k d)) ∙ upto o x y (get_or (y ∷ ys) k d) e (turned o y (get_or (y ∷ ys) k d) ∙ far)

  in_front : (p : X → Bool) (x : X) (zs : List X) → ((k : ℕ) (d : X) → k < length zs → is_gt (R x (get_or zs k d)) ≡ false) → insert_sorted R x (filter p zs) ≡ x ∷ filter p zs
  in_front p x [] all = refl
  in_front p x (z ∷ zs) all =
      elim (p z) as (λ b. insert_sorted R x (cond b (z ∷ filter p zs) (filter p zs)) ≡ x ∷ cond b (z ∷ filter p zs) (filter p zs)) [
        | true ↦ let e : is_gt (R x z) ≡ false = all 0 z (omega arith) in rw e refl
        | false ↦ in_front p x zs (λ k d h. all (suc k) d (omega arith))
      ]

  filter-insert_at : (p : X → Bool) (x y : X) (ys : List X) (a b : Bool) → p x ≡ a → p y ≡ b → is_gt (R x y) ≡ true
      → filter p (insert_sorted R x ys) ≡ cond a (insert_sorted R x (filter p ys)) (filter p ys)
      → cond b (y ∷ filter p (insert_sorted R x ys)) (filter p (insert_sorted R x ys)) ≡ cond a (insert_sorted R x (cond b (y ∷ filter p ys) (filter p ys))) (cond b (y ∷ filter p ys) (filter p ys))
  filter-insert_at p x y ys true true pa pb gt rest = rw gt (ap (λ l. y ∷ l) rest)
  filter-insert_at p x y ys false true pa pb gt rest = ap (λ l. y ∷ l) rest
  filter-insert_at p x y ys true false pa pb gt rest = rest
  filter-insert_at p x y ys false false pa pb gt rest = rest

  pub filter-insert_sorted : (p : X → Bool) (x : X) (xs : List X) → IsSorted R xs → filter p (insert_sorted R x xs) ≡ cond (p x) (insert_sorted R x (filter p xs)) (filter p xs)
  filter-insert_sorted p x [] s = elim (p x) as (λ b. cond b (x ∷ []) [] ≡ cond b (x ∷ []) []) [ true ↦ refl | false ↦ refl ]
  filter-insert_sorted p x (y ∷ ys) s =
      let rest = filter-insert_sorted p x ys (IsSorted-tail R y ys s) in
      elim (is_gt (R x y)) as (λ b. is_gt (R x y) ≡ b → filter p (cond b (y ∷ insert_sorted R x ys) (x ∷ y ∷ ys)) ≡ cond (p x) (insert_sorted R x (filter p (y ∷ ys))) (filter p (y ∷ ys))) [
        | true ↦ λ e. filter-insert_at p x y ys (p x) (p y) refl refl e rest
        | false ↦ λ e. ap (λ l. cond (p x) l (filter p (y ∷ ys)))
            (sym (in_front p x (y ∷ ys) (λ k d h. turned o x _ ∙ not_lt_far x y ys e s k d h)))
      ] refl

  -- to sort what passes is to keep what passes of the sort
  pub filter-sort_of : (p : X → Bool) (xs : List X) → filter p (sort_of R xs) ≡ sort_of R (filter p xs)
  filter-sort_of p [] = refl
  filter-sort_of p (x ∷ xs) =
      filter-insert_sorted p x (sort_of R xs) (IsSorted-sort_of o xs)
      ∙ elim (p x) as (λ b. cond b (insert_sorted R x (filter p (sort_of R xs))) (filter p (sort_of R xs)) ≡ sort_of R (cond b (x ∷ filter p xs) (filter p xs))) [
        | true ↦ ap (insert_sorted R x) (filter-sort_of p xs)
        | false ↦ filter-sort_of p xs
      ]
