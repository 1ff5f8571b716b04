-- Whether some member of a list is so, where the list is made of others.
use Rattle.std.proofs.Common.{◌≡◌, Bool, true, false, cond, ◌&&◌, ◌||◌, List, [], ◌∷◌, map, refl, ap, ◌∙◌}
use Rattle.std.specs.List.{filter, flat_map, list_any}
use Rattle.std.proofs.lemmas.List.Folds.{list_any-append}
use Rattle.std.proofs.lemmas.Bool.{or_left, or_right}
use Rattle.std.specs.Ordering.{is_gt}
use Rattle.std.specs.declared.cmp.Ordering.{Ordering}
use Rattle.sorted_lists.specs.SortedLists.{insert_sorted, sort_of}

-- where what is so is otherwise too
pub list_any-implies : {X : Type 0} (so other : X → Bool) → ((x : X) → so x ≡ true → other x ≡ true) → (xs : List X) → list_any so xs ≡ true → list_any other xs ≡ true
list_any-implies so other each [] h = h
list_any-implies so other each (x ∷ xs) h =
    elim (so x) as (λ b. so x ≡ b → (b || list_any so xs) ≡ true → (other x || list_any other xs) ≡ true) [
      | true ↦ λ e k. or_left (other x) (list_any other xs) (each x e)
      | false ↦ λ e k. or_right (other x) (list_any other xs) (list_any-implies so other each xs k)
    ] refl h

pub list_any-map : {X Y : Type 0} (f : X → Y) (so : Y → Bool) (xs : List X) → list_any so (map f xs) ≡ list_any (λ x. so (f x)) xs
list_any-map f so [] = refl
list_any-map f so (x ∷ xs) = ap (λ b. so (f x) || b) (list_any-map f so xs)

pub list_any-flat_map : {X Y : Type 0} (f : X → List Y) (so : Y → Bool) (xs : List X) → list_any so (flat_map f xs) ≡ list_any (λ x. list_any so (f x)) xs
list_any-flat_map f so [] = refl
list_any-flat_map f so (x ∷ xs) = list_any-append so (f x) (flat_map f xs) ∙ ap (λ b. list_any so (f x) || b) (list_any-flat_map f so xs)

pub list_any-filter : {X : Type 0} (keep so : X → Bool) (xs : List X) → list_any so (filter keep xs) ≡ list_any (λ x. keep x && so x) xs
list_any-filter keep so [] = refl
list_any-filter keep so (x ∷ xs) =
    elim (keep x) as (λ b. list_any so (cond b (x ∷ filter keep xs) (filter keep xs)) ≡ ((b && so x) || list_any (λ y. keep y && so y) xs)) [
      | true ↦ ap (λ b. so x || b) (list_any-filter keep so xs)
      | false ↦ list_any-filter keep so xs
    ]

or_swap : (a b c : Bool) → (a || (b || c)) ≡ (b || (a || c))
or_swap true true c = refl
or_swap true false c = refl
or_swap false b c = refl

module _ {X : Type 0} (R : X → X → Ordering) (so : X → Bool) where
  pub list_any-insert_sorted : (x : X) (zs : List X) → list_any so (insert_sorted R x zs) ≡ (so x || list_any so zs)
  list_any-insert_sorted x [] = refl
  list_any-insert_sorted x (z ∷ zs) =
      elim (is_gt (R x z)) as (λ b. list_any so (cond b (z ∷ insert_sorted R x zs) (x ∷ z ∷ zs)) ≡ (so x || (so z || list_any so zs))) [
        | true ↦ ap (λ b. so z || b) (list_any-insert_sorted x zs) ∙ or_swap (so z) (so x) (list_any so zs)
        | false ↦ refl
      ]

  pub list_any-sort_of : (xs : List X) → list_any so (sort_of R xs) ≡ list_any so xs
  list_any-sort_of [] = refl
  list_any-sort_of (x ∷ xs) = list_any-insert_sorted x (sort_of R xs) ∙ ap (λ b. so x || b) (list_any-sort_of xs)

-- one that is so
pub a_member : {X : Type 0} (so : X → Bool) (xs : List X) → list_any so xs ≡ true → (x : X) × (so x ≡ true)
a_member {X = X} so [] h = absurd cc
a_member {X = X} so (x ∷ xs) h =
    elim (so x) as (λ b. so x ≡ b → (b || list_any so xs) ≡ true → (y : X) × (so y ≡ true)) [
      | true ↦ λ e k. (x, e)
      | false ↦ λ e k. a_member so xs k
    ] refl h
