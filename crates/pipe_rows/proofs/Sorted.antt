-- Sorting what stands for results.
use Rattle.std.proofs.Common.{◌≡◌, Bool, true, false, cond, List, [], ◌∷◌, map, refl, ap, ◌∙◌}
use Rattle.std.specs.Ordering.{is_gt, on}
use Rattle.std.specs.declared.cmp.Ordering.{Ordering}
use Rattle.sorted_lists.specs.SortedLists.{insert_sorted, sort_of}

module _ {X Y : Type 0} (f : X → Y) (R : Y → Y → Ordering) where
  chosen : (b : Bool) (u v : List X) → map f (cond b u v) ≡ cond b (map f u) (map f v)
  chosen true u v = refl
  chosen false u v = refl

  inserted : (x : X) (xs : List X) → map f (insert_sorted (on f R) x xs) ≡ insert_sorted R (f x) (map f xs)
  inserted x [] = refl
  inserted x (y ∷ ys) =
      chosen (is_gt (R (f x) (f y))) (y ∷ insert_sorted (on f R) x ys) (x ∷ y ∷ ys)
      ∙ ap (λ zs. cond (is_gt (R (f x) (f y))) (f y ∷ zs) (f x ∷ f y ∷ map f ys)) (inserted x ys)

  pub map-sort_of : (xs : List X) → map f (sort_of (on f R) xs) ≡ sort_of R (map f xs)
  map-sort_of [] = refl
  map-sort_of (x ∷ xs) = inserted x (sort_of (on f R) xs) ∙ ap (insert_sorted R (f x)) (map-sort_of xs)
