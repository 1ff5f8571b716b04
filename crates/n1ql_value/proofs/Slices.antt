-- Comparing two lists element by element, from a place on.
use Rattle.std.proofs.Common.{◌≡◌, ◌<◌, ◌≤◌, ℕ, zero, suc, min, List, [], ◌∷◌, length, get_or, drop, map, refl, ◌∙◌, arith}
use Rattle.std.proofs.lemmas.Bool.Decides.{nat_tests}
use Rattle.std.specs.Ordering.{nat_cmp, ordering_then}
use Rattle.std.specs.declared.cmp.Ordering.{Ordering}
use Rattle.std.specs.Cmp.Lexicographic.{slice_cmp}
use Rattle.n1ql_value.specs.declared.text.Text.{Text as Bytes}
use Rattle.n1ql_value.specs.declared.value.Value.{Value}
use Rattle.n1ql_value.specs.Datum.{datum_of, pair_of}
use Rattle.n1ql_value.specs.Depth.{largest, depth, pairs_depth}

-- what stands at the place decides, and else what comes after it
pub compare_step : {A B : Type 0} (R : B → B → Ordering) (f : A → B) (xs ys : List A) (i : ℕ) (d : A) → i < length xs → i < length ys
    → slice_cmp R (map f (drop i xs)) (map f (drop i ys)) ≡ ordering_then (R (f (get_or xs i d)) (f (get_or ys i d))) (slice_cmp R (map f (drop (suc i) xs)) (map f (drop (suc i) ys)))
compare_step R f [] ys i d h k = absurd (omega arith)
compare_step R f (x ∷ xs) [] i d h k = absurd (omega arith)
compare_step R f (x ∷ xs) (y ∷ ys) zero d h k = refl
compare_step R f (x ∷ xs) (y ∷ ys) (suc i) d h k = compare_step R f xs ys i d (omega arith) (omega arith)

nat_cmp-suc : (m n : ℕ) → nat_cmp m n ≡ nat_cmp (suc m) (suc n)
nat_cmp-suc m n = grind (arith, nat_tests)

-- past the shorter list the lengths decide
pub compare_end : {A B : Type 0} (R : B → B → Ordering) (f : A → B) (xs ys : List A) (n : ℕ) → n ≡ min (length xs) (length ys) → slice_cmp R (map f (drop n xs)) (map f (drop n ys)) ≡ nat_cmp (length xs) (length ys)
compare_end R f [] [] zero e = refl
compare_end R f [] [] (suc n) e = absurd (omega arith)
compare_end R f [] (y ∷ ys) zero e = grind (arith, nat_tests)
compare_end R f [] (y ∷ ys) (suc n) e = absurd (omega arith)
compare_end R f (x ∷ xs) [] zero e = grind (arith, nat_tests)
compare_end R f (x ∷ xs) [] (suc n) e = absurd (omega arith)
compare_end R f (x ∷ xs) (y ∷ ys) zero e = absurd (omega arith)
compare_end R f (x ∷ xs) (y ∷ ys) (suc n) e = compare_end R f xs ys n (omega arith) ∙ nat_cmp-suc (length xs) (length ys)

-- no element is deeper than the deepest
pub depth_at : (vs : List Value) (i : ℕ) (d : Value) → i < length vs → depth (datum_of (get_or vs i d)) ≤ largest (map depth (map datum_of vs))
depth_at [] i d h = absurd (omega arith)
depth_at (v ∷ vs) zero d h = omega arith
depth_at (v ∷ vs) (suc i) d h = omega (arith, depth_at vs i d (omega arith))

pub pair_depth_at : (es : List (Bytes × Value)) (i : ℕ) (d : Bytes × Value) → i < length es → depth (pair_of (get_or es i d)).1 ≤ pairs_depth (map pair_of es)
pair_depth_at [] i d h = absurd (omega arith)
pair_depth_at (e ∷ es) zero d h = omega arith
pair_depth_at (e ∷ es) (suc i) d h = omega (arith, pair_depth_at es i d (omega arith))
