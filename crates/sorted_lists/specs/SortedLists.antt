-- Lists in the order R, told by their elements alone: how one gains an element, loses one, and is made of any list.
--     insert_sorted R x xs      x in its place in xs
--     sort_of R xs              the elements of xs in order, each as often as it stands in xs
--     without_one R x xs        xs without the first element that R calls equal to x
--     each_once R xs            xs without what R calls equal to an element further on
--     with_all R more xs, without_all R more xs      xs with each of `more` put in its place, and with one of each taken out
use Rattle.std.specs.Prelude.{List, [], ◌∷◌, if◌then◌else◌}
use Rattle.std.specs.List.{list_any}
use Rattle.std.specs.Ordering.{is_eq, is_gt}
use Rattle.std.specs.declared.cmp.Ordering.{Ordering}

-- x stands in front of the first element that is not below it
abbrev pub insert_sorted : {X : Type 0} → (X → X → Ordering) → X → List X → List X
insert_sorted R x [] = x ∷ []
insert_sorted R x (y ∷ ys) = (if is_gt (R x y) then y ∷ insert_sorted R x ys else x ∷ y ∷ ys)

abbrev pub sort_of : {X : Type 0} → (X → X → Ordering) → List X → List X
sort_of R [] = []
sort_of R (x ∷ xs) = insert_sorted R x (sort_of R xs)

abbrev pub without_one : {X : Type 0} → (X → X → Ordering) → X → List X → List X
without_one R x [] = []
without_one R x (y ∷ ys) = (if is_eq (R x y) then ys else y ∷ without_one R x ys)

abbrev pub with_all : {X : Type 0} → (X → X → Ordering) → List X → List X → List X
with_all R [] xs = xs
with_all R (a ∷ more) xs = insert_sorted R a (with_all R more xs)

abbrev pub without_all : {X : Type 0} → (X → X → Ordering) → List X → List X → List X
without_all R [] xs = xs
without_all R (a ∷ more) xs = without_all R more (without_one R a xs)

-- each element once: one that stands again further on is left out
abbrev pub each_once : {X : Type 0} → (X → X → Ordering) → List X → List X
each_once R [] = []
each_once R (x ∷ xs) = (if list_any (λ y. is_eq (R x y)) xs then each_once R xs else x ∷ each_once R xs)
