-- In a list in order, what is the same as its neighbour is what stands again further on.
use Rattle.std.proofs.Common.{◌≡◌, ℕ, zero, suc, ◌<◌, Bool, true, false, cond, ◌||◌, List, [], ◌∷◌, ◌++◌, length, get_or, refl, sym, ap, ◌∙◌, ◌-◌, Some, slice_get, append_assoc, arith}
use Rattle.std.specs.Cmp.{IsTotalOrder}
use Rattle.std.specs.FinMap.{IsAntisymmetric}
use Rattle.std.specs.List.{fold, list_any}
use Rattle.std.specs.List.Sorted.{IsSorted}
use Rattle.std.specs.Ordering.{is_lt, is_eq}
use Rattle.std.specs.declared.cmp.Ordering.{Ordering}
use Rattle.sorted_lists.specs.SortedLists.{each_once}
use Rattle.sorted_lists.proofs.Orderings.{equal_of, is_below, turned}
use Rattle.sorted_lists.proofs.InOrder.{IsSorted-tail, behind}
use Rattle.n1ql_spans.specs.inner.Neighbours.{ends_in, with_other, neighbours_once}

none : {X : Type 0} (p : X → Bool) (xs : List X) → ((k : ℕ) (d : X) → k < length xs → p (get_or xs k d) ≡ false) → list_any p xs ≡ false
none p [] all = refl
none p (x ∷ xs) all = let here : p x ≡ false = all 0 x (omega arith) in rw here (none p xs (λ k d h. all (suc k) d (omega arith)))

module _ {X : Type 0} (R : X → X → Ordering) where
  -- the elements that are not the same as the next one
  abbrev unlike_next : List X → List X
  unlike_next [] = []
  unlike_next (x ∷ []) = x ∷ []
  unlike_next (x ∷ y ∷ ys) = cond (is_eq (R x y)) (unlike_next (y ∷ ys)) (x ∷ unlike_next (y ∷ ys))

  last_of : (ks : List X) (k x : X) → ends_in R (ks ++ k ∷ []) x ≡ is_eq (R k x)
  last_of [] k x = refl
  last_of (a ∷ []) k x = refl
  last_of (a ∷ b ∷ ks) k x = last_of (b ∷ ks) k x

module _ {X : Type 0} {R : X → X → Ordering} (o : IsTotalOrder R) (same : IsAntisymmetric R) where
  -- what is below the first is equal to none behind it
  unequal : (x y : X) (ys : List X) → is_lt (R x y) ≡ true → IsSorted R (y ∷ ys) → (k : ℕ) (d : X) → k < length ys → is_eq (R x (get_or ys k d)) ≡ false
  unequal x y ys less s k d h =
      elim (is_eq (R x (get_or ys k d))) as (λ b. is_eq (R x (get_or ys k d)) ≡ b → b ≡ false) [
        | true ↦ λ e. sym less ∙ (ap (λ w. is_lt (R w y)) (same x (get_or ys k d) (equal_of (R x (get_or ys k d)) e)) ∙ behind o y ys s k d h)
        | false ↦ λ e. refl
      ] refl

  -- among what is in order, what differs from its next is nowhere further on
  unlike_next_once : (xs : List X) → IsSorted R xs → unlike_next R xs ≡ each_once R xs
  unlike_next_once [] s = refl
  unlike_next_once (x ∷ []) s = refl
  unlike_next_once (x ∷ y ∷ ys) s =
      let rest = unlike_next_once (y ∷ ys) (IsSorted-tail R x (y ∷ ys) s) in
      elim (is_eq (R x y)) as (λ b. is_eq (R x y) ≡ b → cond b (unlike_next R (y ∷ ys)) (x ∷ unlike_next R (y ∷ ys)) ≡ cond (b || list_any (λ w. is_eq (R x w)) ys) (each_once R (y ∷ ys)) (x ∷ each_once R (y ∷ ys))) [
        | true ↦ λ e. rest
        | false ↦ λ e.
            let less : is_lt (R x y) ≡ true = is_below (R x y) (turned o x y ∙ s 0 x (omega arith) (omega arith)) e in
            let no : list_any (λ w. is_eq (R x w)) ys ≡ false = none (λ w. is_eq (R x w)) ys (unequal x y ys less (IsSorted-tail R x (y ∷ ys) s)) in
            rw no (ap (λ l. x ∷ l) rest)
      ] refl

  grown : (ks : List X) (k : X) (xs : List X) → fold (with_other R) (ks ++ k ∷ []) xs ≡ ks ++ unlike_next R (k ∷ xs)
  grown ks k [] = refl
  grown ks k (x ∷ xs) =
      ap (λ b. fold (with_other R) (cond b (ks ++ k ∷ []) ((ks ++ k ∷ []) ++ x ∷ [])) xs) (last_of R ks k x)
      ∙ elim (is_eq (R k x)) as (λ b. is_eq (R k x) ≡ b → fold (with_other R) (cond b (ks ++ k ∷ []) ((ks ++ k ∷ []) ++ x ∷ [])) xs ≡ ks ++ cond b (unlike_next R (x ∷ xs)) (k ∷ unlike_next R (x ∷ xs))) [
        | true ↦ λ e. grown ks k xs ∙ ap (λ w. ks ++ unlike_next R (w ∷ xs)) (same k x (equal_of (R k x) e))
        | false ↦ λ e. grown (ks ++ k ∷ []) x xs ∙ append_assoc ks (k ∷ []) (unlike_next R (x ∷ xs))
      ] refl

  pub neighbours_are_once : (xs : List X) → IsSorted R xs → neighbours_once R xs ≡ each_once R xs
  neighbours_are_once [] s = refl
  neighbours_are_once (x ∷ xs) s = grown [] x xs ∙ unlike_next_once (x ∷ xs) s

-- the last element, as the code finds it
pub ends_at : {X : Type 0} (R : X → X → Ordering) (xs : List X) (i : ℕ) (x a : X) → i ≡ length xs - 1 → Some x ≡ slice_get xs i → ends_in R xs a ≡ is_eq (R x a)
ends_at R [] i x a at found = absurd cc
ends_at R (y ∷ []) zero x a at found = let is : y ≡ x = cc in ap (λ w. is_eq (R w a)) is
ends_at R (y ∷ []) (suc i) x a at found = absurd (omega arith)
ends_at R (y ∷ z ∷ zs) zero x a at found = absurd (omega arith)
ends_at R (y ∷ z ∷ zs) (suc i) x a at found = ends_at R (z ∷ zs) i x a (omega arith) found
