-- The innermost binding of a name among frames and what is bound outside of them.
use Rattle.std.proofs.Common.{◌≡◌, ℕ, Bool, true, false, List, [], ◌∷◌, ◌++◌, Option, Some, None, if◌then◌else◌, refl}
use Rattle.std.specs.Ordering.{nat_cmp, is_eq}
use Rattle.std.specs.Cmp.Lexicographic.{slice_cmp}
use Rattle.n1ql_value.specs.Names.{under_name}

found_here : {A : Type 0} (here : Bool) (own a : A) (rest whole : Option A) → (rest ≡ Some a → whole ≡ Some a)
    → (if here then Some own else rest) ≡ Some a → (if here then Some own else whole) ≡ Some a
found_here true own a rest whole further e = e
found_here false own a rest whole further e = further e

not_here : {A : Type 0} (here : Bool) (own : A) (rest whole further : Option A) → (rest ≡ None → whole ≡ further)
    → (if here then Some own else rest) ≡ None → (if here then Some own else whole) ≡ further
not_here true own rest whole further past e = absurd cc
not_here false own rest whole further past e = past e

-- a frame of the name hides what is bound outside
pub bound_in_frame : {A : Type 0} (name : List ℕ) (frames outside : List (List ℕ × A)) (a : A) → under_name name frames ≡ Some a → under_name name (frames ++ outside) ≡ Some a
bound_in_frame name [] outside a e = absurd cc
bound_in_frame name (p ∷ ps) outside a e = found_here (is_eq (slice_cmp nat_cmp name p.0)) p.1 a (under_name name ps) (under_name name (ps ++ outside)) (bound_in_frame name ps outside a) e

-- with no frame of the name it is what is bound outside
pub bound_outside : {A : Type 0} (name : List ℕ) (frames outside : List (List ℕ × A)) → under_name name frames ≡ None → under_name name (frames ++ outside) ≡ under_name name outside
bound_outside name [] outside e = refl
bound_outside name (p ∷ ps) outside e = not_here (is_eq (slice_cmp nat_cmp name p.0)) p.1 (under_name name ps) (under_name name (ps ++ outside)) (under_name name outside) (bound_outside name ps outside) e
