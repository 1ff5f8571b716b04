-- Lists in which an element that is the same as the one before stands once.
use Rattle.std.specs.Prelude.{Bool, false, List, [], ◌∷◌, ◌++◌, if◌then◌else◌}
use Rattle.std.specs.List.{fold}
use Rattle.std.specs.Ordering.{is_eq}
use Rattle.std.specs.declared.cmp.Ordering.{Ordering}

-- whether the last element is the same as another
abbrev pub ends_in : {A : Type 0} → (A → A → Ordering) → List A → A → Bool
ends_in R [] a = false
ends_in R (x ∷ []) a = is_eq (R x a)
ends_in R (x ∷ y ∷ ys) a = ends_in R (y ∷ ys) a

-- one more element, unless it is the same as the last
abbrev pub with_other : {A : Type 0} → (A → A → Ordering) → List A → A → List A
with_other R xs a = (if ends_in R xs a then xs else xs ++ a ∷ [])

abbrev pub neighbours_once : {A : Type 0} → (A → A → Ordering) → List A → List A
neighbours_once R xs = fold (with_other R) [] xs
