-- Lists without repeats.
use Rattle.std.proofs.Common.{◌≡◌, ℕ, zero, suc, ◌<◌, Bool, true, false, cond, ◌||◌, List, [], ◌∷◌, length, get_or, refl, sym, ap, subst, ◌∙◌, arith}
use Rattle.std.specs.Cmp.{IsTotalOrder, upto}
use Rattle.std.specs.FinMap.{IsAntisymmetric}
use Rattle.std.specs.List.{list_any}
use Rattle.std.specs.List.Sorted.{IsSorted}
use Rattle.std.proofs.lemmas.Bool.{or_left, or_right}
use Rattle.std.specs.Ordering.{is_eq, is_gt}
use Rattle.std.specs.declared.cmp.Ordering.{Ordering}
use Rattle.sorted_lists.specs.SortedLists.{insert_sorted, sort_of, each_once}
use Rattle.sorted_lists.proofs.Orderings.{gt_not_eq, equal_of, turned, turned_eq}
use Rattle.sorted_lists.proofs.InOrder.{IsSorted-sort_of, IsSorted-tail, behind}
use Rattle.sorted_lists.proofs.Members.{list_any-insert_sorted, list_any-sort_of}

-- repeats can be left out before a list is put in order, or after
module _ {X : Type 0} {R : X → X → Ordering} (o : IsTotalOrder R) where
  -- x in front of what is nowhere below it
  in_front : (x : X) (zs : List X) → ((k : ℕ) (d : X) → k < length zs → is_gt (R x (get_or zs k d)) ≡ false) → insert_sorted R x (each_once R zs) ≡ x ∷ each_once R zs
  in_front x [] all = refl
  in_front x (z ∷ zs) all =
      elim (list_any (λ y. is_eq (R z y)) zs) as (λ b. insert_sorted R x (cond b (each_once R zs) (z ∷ each_once R zs)) ≡ x ∷ cond b (each_once R zs) (z ∷ each_once R zs)) [
        | true ↦ in_front x zs (λ k d h. all (suc k) d (omega arith))
        | false ↦ let e : is_gt (R x z) ≡ false = all 0 z (omega arith) in rw e refl
      ]

  not_above : (x z : X) (zs : List X) → is_gt (R x z) ≡ false → IsSorted R (z ∷ zs) → (k : ℕ) (d : X) → k < length (z ∷ zs) → is_gt (R x (get_or (z ∷ zs) k d)) ≡ false
  not_above x z zs e s zero d h = e
  not_above x z zs e s (suc k) d h = upto o x z (get_or zs k d) e (turned o z (get_or zs k d) ∙ behind o z zs s k d (omega arith))

  -- an element that is above the first
  later : (x z : X) (zs : List X) (a b : Bool) → is_gt (R x z) ≡ true
      → cond b (cond a (each_once R zs) (insert_sorted R x (each_once R zs))) (z ∷ cond a (each_once R zs) (insert_sorted R x (each_once R zs)))
      ≡ cond a (cond b (each_once R zs) (z ∷ each_once R zs)) (insert_sorted R x (cond b (each_once R zs) (z ∷ each_once R zs)))
  later x z zs true b e = refl
  later x z zs false true e = refl
  later x z zs false false e = rw e refl

  each_once-insert_sorted : (x : X) (zs : List X) → IsSorted R zs
      → each_once R (insert_sorted R x zs) ≡ cond (list_any (λ y. is_eq (R x y)) zs) (each_once R zs) (insert_sorted R x (each_once R zs))
  each_once-insert_sorted x [] s = refl
  each_once-insert_sorted x (z ∷ zs) s =
      elim (is_gt (R x z)) as (λ b. is_gt (R x z) ≡ b → each_once R (cond b (z ∷ insert_sorted R x zs) (x ∷ z ∷ zs)) ≡ cond (list_any (λ y. is_eq (R x y)) (z ∷ zs)) (each_once R (z ∷ zs)) (insert_sorted R x (each_once R (z ∷ zs)))) [
        | true ↦ λ e.
            let apart : is_eq (R x z) ≡ false = gt_not_eq (R x z) e in
            let apart_too : is_eq (R z x) ≡ false = turned_eq o z x ∙ apart in
            let again : Bool = list_any (λ y. is_eq (R x y)) zs in
            let again_z : Bool = list_any (λ y. is_eq (R z y)) zs in
            ap (λ b. cond b (each_once R (insert_sorted R x zs)) (z ∷ each_once R (insert_sorted R x zs))) (list_any-insert_sorted R (λ y. is_eq (R z y)) x zs ∙ ap (λ b. b || again_z) apart_too)
            ∙ (ap (λ l. cond again_z l (z ∷ l)) (each_once-insert_sorted x zs (IsSorted-tail R z zs s))
            ∙ (later x z zs again again_z e
            ∙ sym (ap (λ b. cond (b || again) (each_once R (z ∷ zs)) (insert_sorted R x (each_once R (z ∷ zs)))) apart)))
        | false ↦ λ e. ap (λ l. cond (list_any (λ y. is_eq (R x y)) (z ∷ zs)) (each_once R (z ∷ zs)) l) (sym (in_front x (z ∷ zs) (not_above x z zs e s)))
      ] refl

  pub each_once-sort_of : (xs : List X) → each_once R (sort_of R xs) ≡ sort_of R (each_once R xs)
  each_once-sort_of [] = refl
  each_once-sort_of (x ∷ xs) =
      each_once-insert_sorted x (sort_of R xs) (IsSorted-sort_of o xs)
      ∙ (ap (λ b. cond b (each_once R (sort_of R xs)) (insert_sorted R x (each_once R (sort_of R xs)))) (list_any-sort_of R (λ y. is_eq (R x y)) xs)
      ∙ (ap (λ l. cond (list_any (λ y. is_eq (R x y)) xs) l (insert_sorted R x l)) (each_once-sort_of xs)
      ∙ elim (list_any (λ y. is_eq (R x y)) xs) as (λ b. cond b (sort_of R (each_once R xs)) (insert_sorted R x (sort_of R (each_once R xs))) ≡ sort_of R (cond b (each_once R xs) (x ∷ each_once R xs))) [
        | true ↦ refl
        | false ↦ refl
      ]))

-- what is so of a member implies what is so of the rest
absorbed : (a b : Bool) → (a ≡ true → b ≡ true) → b ≡ (a || b)
absorbed true b f = f refl
absorbed false b f = refl

module _ {X : Type 0} {R : X → X → Ordering} (same : IsAntisymmetric R) where
  again : (so : X → Bool) (x : X) (xs : List X) → list_any (λ y. is_eq (R x y)) xs ≡ true → so x ≡ true → list_any so xs ≡ true
  again so x [] h k = h
  again so x (y ∷ ys) h k =
      elim (is_eq (R x y)) as (λ b. is_eq (R x y) ≡ b → (b || list_any (λ z. is_eq (R x z)) ys) ≡ true → (so y || list_any so ys) ≡ true) [
        | true ↦ λ e t. or_left (so y) (list_any so ys) (subst (λ z. so z ≡ true) (same x y (equal_of (R x y) e)) k)
        | false ↦ λ e t. or_right (so y) (list_any so ys) (again so x ys t k)
      ] refl h

  -- no member is lost
  pub list_any-each_once : (so : X → Bool) (xs : List X) → list_any so (each_once R xs) ≡ list_any so xs
  list_any-each_once so [] = refl
  list_any-each_once so (x ∷ xs) =
      elim (list_any (λ y. is_eq (R x y)) xs) as (λ b. list_any (λ y. is_eq (R x y)) xs ≡ b → list_any so (cond b (each_once R xs) (x ∷ each_once R xs)) ≡ (so x || list_any so xs)) [
        | true ↦ λ e. list_any-each_once so xs ∙ absorbed (so x) (list_any so xs) (again so x xs e)
        | false ↦ λ e. ap (λ b. so x || b) (list_any-each_once so xs)
      ] refl

  -- no repeat is left
  pub each_once-each_once : (xs : List X) → each_once R (each_once R xs) ≡ each_once R xs
  each_once-each_once [] = refl
  each_once-each_once (x ∷ xs) =
      elim (list_any (λ y. is_eq (R x y)) xs) as (λ b. list_any (λ y. is_eq (R x y)) xs ≡ b → each_once R (cond b (each_once R xs) (x ∷ each_once R xs)) ≡ cond b (each_once R xs) (x ∷ each_once R xs)) [
        | true ↦ λ e. each_once-each_once xs
        | false ↦ λ e. let no : list_any (λ y. is_eq (R x y)) (each_once R xs) ≡ false = list_any-each_once (λ y. is_eq (R x y)) xs ∙ e in rw no (ap (λ l. x ∷ l) (each_once-each_once xs))
      ] refl
