-- What is put in and taken out, in any order: R is total, and calls two elements equal only where they are the same.
use Rattle.std.proofs.Common.{◌≡◌, Bool, true, false, cond, List, [], ◌∷◌, ◌++◌, refl, sym, ap, ◌∙◌}
use Rattle.std.specs.Cmp.{IsTotalOrder, upto, tied_itself}
use Rattle.std.specs.FinMap.{IsAntisymmetric}
use Rattle.std.specs.Ordering.{is_gt, ordering_reverse}
use Rattle.std.specs.declared.cmp.Ordering.{Ordering}
use Rattle.std.specs.declared.cmp.Ordering.TheVariants.{Less, Equal, Greater}
use Rattle.sorted_lists.specs.SortedLists.{insert_sorted, sort_of, without_one, with_all, without_all}
use Rattle.sorted_lists.proofs.Orderings.{gt_not_eq}

module _ {X : Type 0} {R : X → X → Ordering} (o : IsTotalOrder R) (same : IsAntisymmetric R) where
  -- z is below x and y is not above z, so y is below x
  above : (x y z : X) → is_gt (R x z) ≡ true → is_gt (R y z) ≡ false → is_gt (R x y) ≡ true
  above x y z p q =
      elim (is_gt (R x y)) as (λ b. is_gt (R x y) ≡ b → b ≡ true) [
        | true ↦ λ e. refl
        | false ↦ λ e. sym (upto o x y z e q) ∙ p
      ] refl

  pair_comm : (x y : X) (ws : List X) → cond (is_gt (R x y)) (y ∷ x ∷ ws) (x ∷ y ∷ ws) ≡ cond (is_gt (R y x)) (x ∷ y ∷ ws) (y ∷ x ∷ ws)
  pair_comm x y ws =
      rw (o.antisymm y x) (elim (R x y) as (λ r. R x y ≡ r → cond (is_gt r) (y ∷ x ∷ ws) (x ∷ y ∷ ws) ≡ cond (is_gt (ordering_reverse r)) (x ∷ y ∷ ws) (y ∷ x ∷ ws)) [
        | Less ↦ λ e. refl
        | Equal ↦ λ e. λ i. same x y e i ∷ sym (same x y e) i ∷ ws
        | Greater ↦ λ e. refl
      ] refl)

  comm_at : (x y z : X) (zs : List X) (a b : Bool) → is_gt (R x z) ≡ a → is_gt (R y z) ≡ b
      → insert_sorted R x (insert_sorted R y zs) ≡ insert_sorted R y (insert_sorted R x zs)
      → insert_sorted R x (insert_sorted R y (z ∷ zs)) ≡ insert_sorted R y (insert_sorted R x (z ∷ zs))
  comm_at x y z zs true true p q rest = rw (q, p) (rw q (ap (λ l. z ∷ l) rest))
  comm_at x y z zs true false p q rest = let r = above x y z p q in rw (q, p) (rw (r, q) refl)
  comm_at x y z zs false true p q rest = let r = above y x z q p in rw (q, p) (rw r (rw q refl))
  comm_at x y z zs false false p q rest = rw (q, p) (rw q (pair_comm x y (z ∷ zs)))

  -- what is put in first doesn't matter
  pub insert_sorted-comm : (x y : X) (zs : List X) → insert_sorted R x (insert_sorted R y zs) ≡ insert_sorted R y (insert_sorted R x zs)
  insert_sorted-comm x y [] = pair_comm x y []
  insert_sorted-comm x y (z ∷ zs) = comm_at x y z zs _ _ refl refl (insert_sorted-comm x y zs)

  -- what was put in comes out again
  pub without_one-insert_sorted : (x : X) (ys : List X) → without_one R x (insert_sorted R x ys) ≡ ys
  without_one-insert_sorted x [] = rw (tied_itself o x) refl
  without_one-insert_sorted x (y ∷ ys) =
      elim (is_gt (R x y)) as (λ b. is_gt (R x y) ≡ b → without_one R x (cond b (y ∷ insert_sorted R x ys) (x ∷ y ∷ ys)) ≡ y ∷ ys) [
        | true ↦ λ e. let n = gt_not_eq (R x y) e in rw n (ap (λ l. y ∷ l) (without_one-insert_sorted x ys))
        | false ↦ λ e. rw (tied_itself o x) refl
      ] refl

  pub with_all-insert_sorted : (more : List X) (x : X) (xs : List X) → with_all R more (insert_sorted R x xs) ≡ insert_sorted R x (with_all R more xs)
  with_all-insert_sorted [] x xs = refl
  with_all-insert_sorted (a ∷ more) x xs = ap (insert_sorted R a) (with_all-insert_sorted more x xs) ∙ insert_sorted-comm a x (with_all R more xs)

  pub with_all-comm : (more less xs : List X) → with_all R more (with_all R less xs) ≡ with_all R less (with_all R more xs)
  with_all-comm [] less xs = refl
  with_all-comm (a ∷ more) less xs = ap (insert_sorted R a) (with_all-comm more less xs) ∙ sym (with_all-insert_sorted less a (with_all R more xs))

  pub without_all-with_all : (more xs : List X) → without_all R more (with_all R more xs) ≡ xs
  without_all-with_all [] xs = refl
  without_all-with_all (a ∷ more) xs = ap (without_all R more) (without_one-insert_sorted a (with_all R more xs)) ∙ without_all-with_all more xs

  pub with_all-append : (more less xs : List X) → with_all R (more ++ less) xs ≡ with_all R more (with_all R less xs)
  with_all-append [] less xs = refl
  with_all-append (a ∷ more) less xs = ap (insert_sorted R a) (with_all-append more less xs)

  -- one more at the end of those that are put in
  pub with_all-push : (more : List X) (x : X) (xs : List X) → with_all R (more ++ x ∷ []) xs ≡ insert_sorted R x (with_all R more xs)
  with_all-push more x xs = with_all-append more (x ∷ []) xs ∙ with_all-insert_sorted more x xs

  pub without_all-push : (more : List X) (x : X) (xs : List X) → without_all R (more ++ x ∷ []) xs ≡ without_one R x (without_all R more xs)
  without_all-push [] x xs = refl
  without_all-push (a ∷ more) x xs = without_all-push more x (without_one R a xs)

  pub sort_of-append : (xs ys : List X) → sort_of R (xs ++ ys) ≡ with_all R xs (sort_of R ys)
  sort_of-append [] ys = refl
  sort_of-append (x ∷ xs) ys = ap (insert_sorted R x) (sort_of-append xs ys)

  pub with_all-nil : (xs : List X) → with_all R xs [] ≡ sort_of R xs
  with_all-nil [] = refl
  with_all-nil (x ∷ xs) = ap (insert_sorted R x) (with_all-nil xs)

  -- two parts in the other order sort alike
  pub sort_of-append_comm : (xs ys : List X) → sort_of R (xs ++ ys) ≡ sort_of R (ys ++ xs)
  sort_of-append_comm xs ys =
      sort_of-append xs ys ∙ ap (with_all R xs) (sym (with_all-nil ys)) ∙ with_all-comm xs ys [] ∙ ap (with_all R ys) (with_all-nil xs) ∙ sym (sort_of-append ys xs)
