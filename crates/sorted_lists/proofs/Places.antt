-- Where an element goes in a list in order, and where it stands.
use Rattle.std.proofs.Common.{◌≡◌, ℕ, zero, suc, ◌<◌, ◌≤◌, true, false, ltb, List, [], ◌∷◌, length, get_or, refl, sym, ap, ◌∙◌, arith}
use Rattle.std.specs.Cmp.{IsTotalOrder, tied_itself}
use Rattle.std.specs.List.{AllWithin, Contains, insert, remove}
use Rattle.std.specs.List.Sorted.{IsSorted, IsPartitionedBy, IsPartitionPoint}
use Rattle.std.proofs.lemmas.List.Sorted.{searchable_from_sorted}
use Rattle.std.proofs.lemmas.Bool.{true≢false, ltb-true, ltb-false}
use Rattle.std.specs.Ordering.{is_lt, is_eq, is_gt}
use Rattle.std.specs.declared.cmp.Ordering.{Ordering}
use Rattle.sorted_lists.specs.SortedLists.{insert_sorted, without_one}
use Rattle.sorted_lists.proofs.Orderings.{lt_not_eq, lt_below, not_eq_above, turned, turned_eq}

module _ {X : Type 0} {R : X → X → Ordering} (o : IsTotalOrder R) where
  -- where to search for x by halving
  pub IsPartitionedBy-below : (x : X) (xs : List X) → IsSorted R xs → IsPartitionedBy (λ y. is_lt (R y x)) xs
  IsPartitionedBy-below x xs s i j d le h e = lt_below _ _ (searchable_from_sorted o (λ y. y) xs x s i j d le h) e

  -- the place behind all that is below x is the place of x
  pub insert-place : (x : X) (xs : List X) (i : ℕ) → i ≤ length xs → IsPartitionPoint (λ y. is_lt (R y x) ≡ true) (λ y. is_lt (R y x) ≡ false) xs i → insert xs i x ≡ insert_sorted R x xs
  insert-place x [] zero h p = refl
  insert-place x [] (suc i) h p = absurd (omega arith)
  insert-place x (y ∷ ys) zero h p =
      let here : is_gt (R x y) ≡ false = turned o x y ∙ p.1 0 y (omega arith) (omega arith) in rw here refl
  insert-place x (y ∷ ys) (suc i) h p =
      let here : is_gt (R x y) ≡ true = turned o x y ∙ p.0 0 y (omega arith) (omega arith) in
      rw here (ap (λ l. y ∷ l) (insert-place x ys i (omega arith) (λ k d low h. p.0 (suc k) d (omega arith) (omega arith), λ k d low h. p.1 (suc k) d (omega arith) (omega arith))))

  -- the element there, where it ties with x, is the one that goes
  pub remove-place : (x : X) (xs : List X) (i : ℕ) → i < length xs → AllWithin (λ y. is_lt (R y x) ≡ true) xs 0 i → ((d : X) → is_eq (R (get_or xs i d) x) ≡ true) → remove xs i ≡ without_one R x xs
  remove-place x [] i h below here = absurd (omega arith)
  remove-place x (y ∷ ys) zero h below here = let e : is_eq (R x y) ≡ true = turned_eq o x y ∙ here y in rw e refl
  remove-place x (y ∷ ys) (suc i) h below here =
      let e : is_eq (R x y) ≡ false = turned_eq o x y ∙ lt_not_eq (R y x) (below 0 y (omega arith) (omega arith)) in
      rw e (ap (λ l. y ∷ l) (remove-place x ys i (omega arith) (λ k d low h. below (suc k) d (omega arith) (omega arith)) here))

  -- where it doesn't tie, or there is none there, none ties
  pub none_ties : (x : X) (xs : List X) (i : ℕ) → IsSorted R xs → IsPartitionPoint (λ y. is_lt (R y x) ≡ true) (λ y. is_lt (R y x) ≡ false) xs i
      → (i < length xs → (d : X) → is_eq (R (get_or xs i d) x) ≡ false) → AllWithin (λ y. is_eq (R x y) ≡ false) xs 0 (length xs)
  none_ties x xs i s p here k d low h =
      turned_eq o x (get_or xs k d) ∙ elim (ltb k i) as (λ b. ltb k i ≡ b → is_eq (R (get_or xs k d) x) ≡ false) [
        | true ↦ λ e. lt_not_eq _ (p.0 k d (omega arith) (ltb-true k i e))
        | false ↦ λ e. let le : i ≤ k = ltb-false k i e in
            not_eq_above _ _ (searchable_from_sorted o (λ y. y) xs x s i k d le h) (p.1 i d (omega arith) (omega arith)) (here (omega arith) d)
      ] refl

  -- so x isn't among them
  pub none_ties_not_contained : (x : X) (xs : List X) → AllWithin (λ y. is_eq (R x y) ≡ false) xs 0 (length xs) → ¬ Contains xs x
  none_ties_not_contained x xs none (k, h, e) =
      true≢false (sym (ap is_eq (tied_itself o x)) ∙ ap (λ y. is_eq (R x y)) (sym e) ∙ none k x (omega arith) h)
