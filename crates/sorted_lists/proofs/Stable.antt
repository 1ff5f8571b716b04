-- What a stable sort gives, by an order that may tie elements that aren't the same.
use Rattle.std.proofs.Common.{◌≡◌, ℕ, suc, ◌<◌, Bool, true, false, cond, not, ◌&&◌, List, [], ◌∷◌, length, get_or, refl, sym, ap, subst, ◌∙◌, arith}
use Rattle.std.specs.Cmp.{IsTotalOrder, tied_itself}
use Rattle.std.specs.List.{filter}
use Rattle.std.specs.List.Sorted.{IsSorted, IsStable, ties}
use Rattle.std.specs.Ordering.{is_lt, is_gt, ordering_reverse}
use Rattle.std.specs.declared.cmp.Ordering.{Ordering}
use Rattle.std.specs.declared.cmp.Ordering.TheVariants.{Less, Equal, Greater}
use Rattle.sorted_lists.specs.SortedLists.{insert_sorted, sort_of}
use Rattle.sorted_lists.proofs.InOrder.{IsSorted-sort_of, IsSorted-tail, behind}
use Rattle.sorted_lists.proofs.Filters.{filter-sort_of}

-- what passes is in the list
from_filter : {X : Type 0} (P : X → Type 0) (p : X → Bool) (zs : List X) (y : X) (ws : List X) → filter p zs ≡ y ∷ ws → ((k : ℕ) (d : X) → k < length zs → P (get_or zs k d)) → P y
from_filter P p [] y ws e all = absurd cc
from_filter P p (z ∷ zs) y ws e all =
    elim (p z) as (λ b. cond b (z ∷ filter p zs) (filter p zs) ≡ y ∷ ws → P y) [
      | true ↦ λ h. let first : z ≡ y = cc in subst P first (all 0 z (omega arith))
      | false ↦ λ h. from_filter P p zs y ws h (λ k d l. all (suc k) d (omega arith))
    ] e

neither : (r s : Ordering) → r ≡ ordering_reverse s → (not (is_lt r) && not (is_lt s)) ≡ true → r ≡ Equal
neither Less s e h = absurd cc
neither Equal s e h = refl
neither Greater Less e h = absurd cc
neither Greater Equal e h = absurd cc
neither Greater Greater e h = absurd cc

cut : {X : Type 0} (b : Bool) (y : X) (us vs : List X) → cond b (y ∷ us) us ≡ cond b (y ∷ vs) vs → us ≡ vs
cut true y us vs e = cc
cut false y us vs e = e

second_is : (a b : Bool) → a ≡ false → (not a && not b) ≡ false → b ≡ true
second_is a true e h = refl
second_is true false e h = absurd cc
second_is false false e h = absurd cc

module _ {X : Type 0} {R : X → X → Ordering} (o : IsTotalOrder R) where
  abbrev below : X → X → Bool
  below x y = is_lt (R x y)

  -- elements that tie
  tied : (x y : X) → ties below x y ≡ true → R x y ≡ Equal
  tied x y e = neither (R x y) (R y x) (o.antisymm x y) e

  itself : (x : X) → ties below x x ≡ true
  itself x = rw (tied_itself o x) refl

  in_front : (x y : X) (zs : List X) → ties below x y ≡ true → insert_sorted R y (filter (ties below x) zs) ≡ y ∷ filter (ties below x) zs
  in_front x y [] e = refl
  in_front x y (z ∷ zs) e =
      elim (ties below x z) as (λ b. ties below x z ≡ b → insert_sorted R y (cond b (z ∷ filter (ties below x) zs) (filter (ties below x) zs)) ≡ y ∷ cond b (z ∷ filter (ties below x) zs) (filter (ties below x) zs)) [
        | true ↦ λ f. let h : is_gt (R y z) ≡ false = ap is_gt (sym (o.congr x y z (tied x y e)) ∙ tied x z f) in rw h refl
        | false ↦ λ f. in_front x y zs e
      ] refl

  -- a list of one element again and again is in order
  sort_of-ties : (x : X) (ys : List X) → sort_of R (filter (ties below x) ys) ≡ filter (ties below x) ys
  sort_of-ties x [] = refl
  sort_of-ties x (y ∷ ys) =
      elim (ties below x y) as (λ b. ties below x y ≡ b → sort_of R (cond b (y ∷ filter (ties below x) ys) (filter (ties below x) ys)) ≡ cond b (y ∷ filter (ties below x) ys) (filter (ties below x) ys)) [
        | true ↦ λ e. ap (insert_sorted R y) (sort_of-ties x ys) ∙ in_front x y ys e
        | false ↦ λ e. sort_of-ties x ys
      ] refl

  apart : (y z : X) (ys zs : List X) → IsSorted R (y ∷ ys) → IsSorted R (z ∷ zs) → ((x : X) → filter (ties below x) (y ∷ ys) ≡ filter (ties below x) (z ∷ zs)) → ties below y z ≡ false → ⊥
  apart y z ys zs s t e h =
      let at_y : y ∷ filter (ties below y) ys ≡ filter (ties below y) zs = rw (itself y, h) at (e y) in
      let not_below : is_lt (R y z) ≡ false = from_filter (λ w. is_lt (R w z) ≡ false) (ties below y) zs y (filter (ties below y) ys) (sym at_y) (behind o z zs t) in
      let is_below : is_lt (R z y) ≡ true = second_is (is_lt (R y z)) (is_lt (R z y)) not_below h in
      let apart_too : ties below z y ≡ false = rw is_below refl in
      let at_z : filter (ties below z) ys ≡ z ∷ filter (ties below z) zs = rw (itself z, apart_too) at (e z) in
      let not_above : is_lt (R z y) ≡ false = from_filter (λ w. is_lt (R w y) ≡ false) (ties below z) ys z (filter (ties below z) zs) at_z (behind o y ys s) in
      cc

  first_same : (y z : X) (ys zs : List X) → IsSorted R (y ∷ ys) → IsSorted R (z ∷ zs) → ((x : X) → filter (ties below x) (y ∷ ys) ≡ filter (ties below x) (z ∷ zs)) → y ≡ z
  first_same y z ys zs s t e =
      elim (ties below y z) as (λ b. ties below y z ≡ b → y ≡ z) [
        | true ↦ λ h. let at_y : y ∷ filter (ties below y) ys ≡ z ∷ filter (ties below y) zs = rw (itself y, h) at (e y) in cc
        | false ↦ λ h. absurd (apart y z ys zs s t e h)
      ] refl

  -- lists in order are the same that have each element equally often
  alike : (ys zs : List X) → IsSorted R ys → IsSorted R zs → ((x : X) → filter (ties below x) ys ≡ filter (ties below x) zs) → ys ≡ zs
  alike [] [] s t e = refl
  alike [] (z ∷ zs) s t e = let h : [] ≡ z ∷ filter (ties below z) zs = rw (itself z) at (e z) in absurd cc
  alike (y ∷ ys) [] s t e = let h : y ∷ filter (ties below y) ys ≡ [] = rw (itself y) at (e y) in absurd cc
  alike (y ∷ ys) (z ∷ zs) s t e =
      let first : y ≡ z = first_same y z ys zs s t e in
      let rest : ys ≡ zs = alike ys zs (IsSorted-tail R y ys s) (IsSorted-tail R z zs t) (λ x.
      cut (ties below x y) y (filter (ties below x) ys) (filter (ties below x) zs)
      (subst (λ w. filter (ties below x) (y ∷ ys) ≡ cond (ties below x w) (w ∷ filter (ties below x) zs) (filter (ties below x) zs)) (sym first) (e x))) in
      cc

  pub sorted_is_sort_of : (xs ys : List X) → IsSorted R ys → IsStable R xs ys → ys ≡ sort_of R xs
  sorted_is_sort_of xs ys s stable =
      alike ys (sort_of R xs) s (IsSorted-sort_of o xs) (λ x. stable x ∙ sym (filter-sort_of o (ties below x) xs ∙ sort_of-ties x xs))
