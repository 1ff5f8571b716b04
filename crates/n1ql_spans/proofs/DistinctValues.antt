-- The distinct values of a list, as the code makes them, are the distinct data that contracts see.
use Rattle.std.proofs.Common.{◌≡◌, true, false, cond, not, List, [], ◌∷◌, map, refl, sym, ap, ◌∙◌}
use Rattle.std.proofs.lemmas.Cmp.{on_total}
use Rattle.std.specs.Cmp.{IsTotalOrder}
use Rattle.std.specs.List.{filter, list_any}
use Rattle.std.specs.Ordering.{is_eq, is_gt, on}
use Rattle.std.specs.declared.cmp.Ordering.{Ordering}
use Rattle.std.specs.declared.cmp.Ordering.TheVariants.{Equal}
use Rattle.n1ql_value.specs.declared.datum.Datum.{Datum}
use Rattle.n1ql_value.specs.declared.value.Value.{Value}
use Rattle.n1ql_value.specs.Collation.{value_cmp}
use Rattle.n1ql_value.specs.Datum.{datum_of, value_of as value_at, value_of-datum_of}
use Rattle.n1ql_value.specs.Kinds.{is_null}
use Rattle.sorted_lists.specs.SortedLists.{each_once, insert_sorted, sort_of}
use Rattle.sorted_lists.proofs.InOrder.{IsSorted-sort_of}
use Rattle.sorted_lists.proofs.Members.{list_any-map}
use Rattle.n1ql_spans.specs.Bounding.{distinct, point}
use Rattle.n1ql_spans.specs.inner.Neighbours.{neighbours_once}
use Rattle.n1ql_spans.proofs.Neighbours.{neighbours_are_once}

-- lists of what stands for something else, in the order of what it stands for
module _ {X Y : Type 0} (f : X → Y) (R : Y → Y → Ordering) where
  map-insert_sorted : (x : X) (ys : List X) → map f (insert_sorted (on f R) x ys) ≡ insert_sorted R (f x) (map f ys)
  map-insert_sorted x [] = refl
  map-insert_sorted x (y ∷ ys) =
      elim (is_gt (R (f x) (f y))) as (λ b. map f (cond b (y ∷ insert_sorted (on f R) x ys) (x ∷ y ∷ ys)) ≡ cond b (f y ∷ insert_sorted R (f x) (map f ys)) (f x ∷ f y ∷ map f ys)) [
        | true ↦ ap (λ l. f y ∷ l) (map-insert_sorted x ys)
        | false ↦ refl
      ]

  map-sort_of : (xs : List X) → map f (sort_of (on f R) xs) ≡ sort_of R (map f xs)
  map-sort_of [] = refl
  map-sort_of (x ∷ xs) = map-insert_sorted x (sort_of (on f R) xs) ∙ ap (insert_sorted R (f x)) (map-sort_of xs)

  map-each_once : (xs : List X) → map f (each_once (on f R) xs) ≡ each_once R (map f xs)
  map-each_once [] = refl
  map-each_once (x ∷ xs) =
      elim (list_any (λ y. is_eq (R (f x) (f y))) xs) as (λ b. map f (cond b (each_once (on f R) xs) (x ∷ each_once (on f R) xs)) ≡ cond b (each_once R (map f xs)) (f x ∷ each_once R (map f xs))) [
        | true ↦ map-each_once xs
        | false ↦ ap (λ l. f x ∷ l) (map-each_once xs)
      ]
      ∙ ap (λ b. cond b (each_once R (map f xs)) (f x ∷ each_once R (map f xs))) (sym (list_any-map f (λ y. is_eq (R (f x) y)) xs))

map-without_nulls : (vs : List Value) → map datum_of (filter (λ v. not (is_null v)) vs) ≡ filter (λ d. not (is_null (value_at d))) (map datum_of vs)
map-without_nulls [] = refl
map-without_nulls (v ∷ vs) =
    let kept : List Datum = filter (λ d. not (is_null (value_at d))) (map datum_of vs) in
    elim (not (is_null v)) as (λ b. map datum_of (cond b (v ∷ filter (λ v. not (is_null v)) vs) (filter (λ v. not (is_null v)) vs)) ≡ cond b (datum_of v ∷ kept) kept) [
      | true ↦ ap (λ l. datum_of v ∷ l) (map-without_nulls vs)
      | false ↦ map-without_nulls vs
    ]
    ∙ ap (λ w. cond (not (is_null w)) (datum_of v ∷ kept) kept) (sym (value_of-datum_of v))

-- over an order of values that is total and calls only the same values equal
module _ (total : IsTotalOrder value_cmp) (exact : (a b : Datum) → value_cmp a b ≡ Equal → a ≡ b) where
  same : (a b : Value) → on datum_of value_cmp a b ≡ Equal → a ≡ b
  same a b e = sym (value_of-datum_of a) ∙ (ap value_at (exact (datum_of a) (datum_of b) e) ∙ value_of-datum_of b)

  pub distinct_values : (vs : List Value) → map datum_of (neighbours_once (on datum_of value_cmp) (sort_of (on datum_of value_cmp) (filter (λ v. not (is_null v)) vs))) ≡ distinct (map datum_of vs)
  distinct_values vs =
      let kept : List Value = filter (λ v. not (is_null v)) vs in
      let sorted : List Value = sort_of (on datum_of value_cmp) kept in
      ap (map datum_of) (neighbours_are_once (on_total datum_of total) same sorted (IsSorted-sort_of (on_total datum_of total) kept))
      ∙ (map-each_once datum_of value_cmp sorted
      ∙ ap (each_once value_cmp) (map-sort_of datum_of value_cmp kept ∙ ap (sort_of value_cmp) (map-without_nulls vs)))

-- the points of values
pub points_of_values : (vs : List Value) → map point vs ≡ map (λ d. point (value_at d)) (map datum_of vs)
points_of_values [] = refl
points_of_values (v ∷ vs) = ap (λ w. point w ∷ map point vs) (sym (value_of-datum_of v)) ∙ ap (λ l. point (value_at (datum_of v)) ∷ l) (points_of_values vs)
