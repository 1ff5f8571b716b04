-- Lists in order stay so.
use Rattle.std.proofs.Common.{◌≡◌, ℕ, zero, suc, ◌+◌, ◌<◌, true, false, cond, List, [], ◌∷◌, length, get_or, refl, sym, ap, ◌∙◌, add-one, arith}
use Rattle.std.specs.Cmp.{IsTotalOrder}
use Rattle.std.specs.List.{AllWithin}
use Rattle.std.specs.List.Sorted.{IsSorted}
use Rattle.std.proofs.lemmas.List.Sorted.{sorted_far, ranks_by}
use Rattle.std.specs.Ordering.{is_lt, is_eq, is_gt}
use Rattle.std.specs.declared.cmp.Ordering.{Ordering}
use Rattle.sorted_lists.specs.SortedLists.{insert_sorted, sort_of, without_one, with_all, without_all}
use Rattle.sorted_lists.proofs.Orderings.{gt_not_lt, turned}

module _ {X : Type 0} (R : X → X → Ordering) where
  pub length-insert_sorted : (x : X) (xs : List X) → length (insert_sorted R x xs) ≡ length xs + 1
  length-insert_sorted x [] = refl
  length-insert_sorted x (y ∷ ys) =
      elim (is_gt (R x y)) as (λ b. length (cond b (y ∷ insert_sorted R x ys) (x ∷ y ∷ ys)) ≡ suc (length ys) + 1) [
        | true ↦ omega (arith, length-insert_sorted x ys)
        | false ↦ omega arith
      ]

  pub length-with_all : (more xs : List X) → length (with_all R more xs) ≡ length more + length xs
  length-with_all [] xs = omega arith
  length-with_all (a ∷ more) xs = length-insert_sorted a (with_all R more xs) ∙ omega (arith, length-with_all more xs)

  pub length-sort_of : (xs : List X) → length (sort_of R xs) ≡ length xs
  length-sort_of [] = refl
  length-sort_of (x ∷ xs) = length-insert_sorted x (sort_of R xs) ∙ omega (arith, length-sort_of xs)

  pub IsSorted-tail : (x : X) (xs : List X) → IsSorted R (x ∷ xs) → IsSorted R xs
  IsSorted-tail x xs s k d low h = rw add-one (rw add-one at (s (suc k) d (omega arith) (omega arith)))

  pub IsSorted-cons : (x : X) (xs : List X) → ((d : X) → 0 < length xs → is_lt (R (get_or xs 0 d) x) ≡ false) → IsSorted R xs → IsSorted R (x ∷ xs)
  IsSorted-cons x xs first rest zero d low h = first d (omega arith)
  IsSorted-cons x xs first rest (suc k) d low h = rw add-one (rw add-one at (rest k d (omega arith) (omega arith)))

  -- the first of x and xs, where x is put in its place
  first_of-insert_sorted : (P : X → Type 0) (x : X) (xs : List X) → P x → ((d : X) → 0 < length xs → P (get_or xs 0 d)) → (d : X) → P (get_or (insert_sorted R x xs) 0 d)
  first_of-insert_sorted P x [] here rest d = here
  first_of-insert_sorted P x (y ∷ ys) here rest d =
      elim (is_gt (R x y)) as (λ b. P (get_or (cond b (y ∷ insert_sorted R x ys) (x ∷ y ∷ ys)) 0 d)) [
        | true ↦ rest d (omega arith)
        | false ↦ here
      ]

  first_of-without_one : (P : X → Type 0) (x : X) (xs : List X) → ((k : ℕ) (d : X) → k < length xs → P (get_or xs k d)) → (d : X) → 0 < length (without_one R x xs) → P (get_or (without_one R x xs) 0 d)
  first_of-without_one P x [] all d = λ h. absurd (omega arith)
  first_of-without_one P x (y ∷ ys) all d =
      elim (is_eq (R x y)) as (λ b. 0 < length (cond b ys (y ∷ without_one R x ys)) → P (get_or (cond b ys (y ∷ without_one R x ys)) 0 d)) [
        | true ↦ λ h. all 1 d (omega arith)
        | false ↦ λ h. all 0 d (omega arith)
      ]

  pub without_one-absent : (x : X) (xs : List X) → AllWithin (λ y. is_eq (R x y) ≡ false) xs 0 (length xs) → without_one R x xs ≡ xs
  without_one-absent x [] none = refl
  without_one-absent x (y ∷ ys) none =
      let here : is_eq (R x y) ≡ false = none 0 y (omega arith) (omega arith) in
      rw here (ap (λ l. y ∷ l) (without_one-absent x ys (λ k d low h. none (suc k) d (omega arith) (omega arith))))

module _ {X : Type 0} {R : X → X → Ordering} (o : IsTotalOrder R) where
  pub IsSorted-insert_sorted : (x : X) (xs : List X) → IsSorted R xs → IsSorted R (insert_sorted R x xs)
  IsSorted-insert_sorted x [] s = IsSorted-cons R x [] (λ d h. absurd (omega arith)) s
  IsSorted-insert_sorted x (y ∷ ys) s =
      elim (is_gt (R x y)) as (λ b. is_gt (R x y) ≡ b → IsSorted R (cond b (y ∷ insert_sorted R x ys) (x ∷ y ∷ ys))) [
        | true ↦ λ e. IsSorted-cons R y (insert_sorted R x ys)
            (λ d h. first_of-insert_sorted R (λ z. is_lt (R z y) ≡ false) x ys (gt_not_lt (R x y) e) (λ d h. s 0 d (omega arith) (omega arith)) d)
            (IsSorted-insert_sorted x ys (IsSorted-tail R y ys s))
        | false ↦ λ e. IsSorted-cons R x (y ∷ ys) (λ d h. sym (turned o x y) ∙ e) s
      ] refl

  pub IsSorted-with_all : (more xs : List X) → IsSorted R xs → IsSorted R (with_all R more xs)
  IsSorted-with_all [] xs s = s
  IsSorted-with_all (a ∷ more) xs s = IsSorted-insert_sorted a (with_all R more xs) (IsSorted-with_all more xs s)

  pub IsSorted-sort_of : (xs : List X) → IsSorted R (sort_of R xs)
  IsSorted-sort_of [] = λ k d low h. absurd (omega arith)
  IsSorted-sort_of (x ∷ xs) = IsSorted-insert_sorted x (sort_of R xs) (IsSorted-sort_of xs)

  -- a list in order is its own sort
  pub sort_of-IsSorted : (xs : List X) → IsSorted R xs → sort_of R xs ≡ xs
  sort_of-IsSorted [] s = refl
  sort_of-IsSorted (x ∷ []) s = refl
  sort_of-IsSorted (x ∷ y ∷ ys) s =
      let rest = sort_of-IsSorted (y ∷ ys) (IsSorted-tail R x (y ∷ ys) s) in
      let below : is_gt (R x y) ≡ false = turned o x y ∙ s 0 x (omega arith) (omega arith) in
      ap (insert_sorted R x) rest ∙ rw below refl

  -- nothing behind the first is below it
  pub behind : (y : X) (ys : List X) → IsSorted R (y ∷ ys) → (k : ℕ) (d : X) → k < length ys → is_lt (R (get_or ys k d) y) ≡ false
  behind y ys s k d h = sorted_far (λ a b. is_lt (R a b)) (ranks_by o (λ z. z)) (y ∷ ys) s 0 (suc k) d (omega arith) (omega arith)

  pub IsSorted-without_one : (x : X) (xs : List X) → IsSorted R xs → IsSorted R (without_one R x xs)
  IsSorted-without_one x [] s = s
  IsSorted-without_one x (y ∷ ys) s =
      let tail = IsSorted-tail R y ys s in
      elim (is_eq (R x y)) as (λ b. IsSorted R (cond b ys (y ∷ without_one R x ys))) [
        | true ↦ tail
        | false ↦ IsSorted-cons R y (without_one R x ys) (first_of-without_one R (λ z. is_lt (R z y) ≡ false) x ys (λ k d h. sorted_far _ (ranks_by o (λ z. z)) (y ∷ ys) s 0 (suc k) d (omega arith) (omega arith)))
            (IsSorted-without_one x ys tail)
      ]

  pub IsSorted-without_all : (more xs : List X) → IsSorted R xs → IsSorted R (without_all R more xs)
  IsSorted-without_all [] xs s = s
  IsSorted-without_all (a ∷ more) xs s = IsSorted-without_all more (without_one R a xs) (IsSorted-without_one a xs s)
