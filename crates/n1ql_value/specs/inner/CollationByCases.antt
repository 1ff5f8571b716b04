-- The order of values by cases on two values.
use Rattle.std.specs.Prelude.{◌≡◌, ℕ, List, [], ◌∷◌, map, refl}
use Rattle.std.proofs.Common.{ap, ◌∙◌}
use Rattle.std.proofs.lemmas.List.{length-map}
use Rattle.std.specs.Ordering.{ordering_then}
use Rattle.std.specs.declared.cmp.Ordering.{Ordering}
use Rattle.std.specs.Cmp.Lexicographic.{slice_cmp}
use Rattle.n1ql_value.specs.declared.datum.Datum.{Datum, fold-Datum, out-Datum}
use Rattle.n1ql_value.specs.declared.datum.Datum.TheOpen.{Datum-F}
use Rattle.n1ql_value.specs.declared.datum.Datum.TheFolds.{map-Datum, fold_out-Datum}
use Rattle.n1ql_value.specs.Layers.{elements_of, pairs_of}
use Rattle.n1ql_value.specs.Collation.{pair_cmp, layer_cmp, compare_with, value_cmp}

slice_cmp-map : {A B : Type 0} (f : A → B → Ordering) (xs : List A) (ys : List B) → slice_cmp (λ compare d. compare d) (map f xs) ys ≡ slice_cmp f xs ys
slice_cmp-map f [] [] = refl
slice_cmp-map f [] (y ∷ ys) = refl
slice_cmp-map f (x ∷ xs) [] = refl
slice_cmp-map f (x ∷ xs) (y ∷ ys) = ap (ordering_then (f x y)) (slice_cmp-map f xs ys)

slice_cmp-map_pairs : (f : Datum → Datum → Ordering) (ps qs : List (List ℕ × Datum)) → slice_cmp (pair_cmp (λ (compare : Datum → Ordering) (d : Datum). compare d)) (map (λ (p : List ℕ × Datum). (p.0, f p.1)) ps) qs ≡ slice_cmp (pair_cmp f) ps qs
slice_cmp-map_pairs f [] [] = refl
slice_cmp-map_pairs f [] (q ∷ qs) = refl
slice_cmp-map_pairs f (p ∷ ps) [] = refl
slice_cmp-map_pairs f (p ∷ ps) (q ∷ qs) = ap (ordering_then (pair_cmp f p q)) (slice_cmp-map_pairs f ps qs)

layer_cmp-map : (f : Datum → Datum → Ordering) (a b : Datum-F Datum) → layer_cmp (λ (compare : Datum → Ordering) (d : Datum). compare d) (map-Datum Datum (Datum → Ordering) f a) b ≡ layer_cmp f a b
layer_cmp-map f Datum-F.Missing b = cc (slice_cmp-map f [] (elements_of b), slice_cmp-map_pairs f [] (pairs_of b))
layer_cmp-map f Datum-F.Null b = cc (slice_cmp-map f [] (elements_of b), slice_cmp-map_pairs f [] (pairs_of b))
layer_cmp-map f (Datum-F.Bool v) b = cc (slice_cmp-map f [] (elements_of b), slice_cmp-map_pairs f [] (pairs_of b))
layer_cmp-map f (Datum-F.Int z) b = cc (slice_cmp-map f [] (elements_of b), slice_cmp-map_pairs f [] (pairs_of b))
layer_cmp-map f (Datum-F.Text t) b = cc (slice_cmp-map f [] (elements_of b), slice_cmp-map_pairs f [] (pairs_of b))
layer_cmp-map f (Datum-F.Array ds) b = cc (slice_cmp-map f ds (elements_of b), slice_cmp-map_pairs f [] (pairs_of b))
layer_cmp-map f (Datum-F.Object ps) b =
    let compared : List ℕ × Datum → List ℕ × (Datum → Ordering) = λ p. (p.0, f p.1) in
    cc (slice_cmp-map_pairs f ps (pairs_of b), length-map ps compared)

pub value_cmp-by_layer : (a b : Datum) → value_cmp a b ≡ layer_cmp value_cmp (out-Datum a) (out-Datum b)
unfolding value_cmp
value_cmp-by_layer a b = ap (λ (f : Datum → Ordering). f b) (fold_out-Datum (Datum → Ordering) compare_with a) ∙ layer_cmp-map (fold-Datum (Datum → Ordering) compare_with) (out-Datum a) (out-Datum b)
