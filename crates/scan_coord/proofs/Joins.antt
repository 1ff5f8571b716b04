-- Nothing asked for on top of what was seen.
use Rattle.std.proofs.Common.{◌≡◌, ℕ, List, [], ◌∷◌, length, ap, refl, ◌∙◌, arith}
use Rattle.std.specs.Prelude.{max}
use Rattle.seq_vector.specs.Vectors.{join, zeros}

max_zero : (n : ℕ) → max n 0 ≡ n
max_zero n = omega arith

joined : (v w : List ℕ) → length v ≡ length w → join v (zeros (length w)) ≡ v
joined [] w h = refl
joined (x ∷ v) [] h = absurd cc
joined (x ∷ v) (y ∷ w) h = ap (λ n. n ∷ join v (zeros (length w))) (max_zero x) ∙ ap (λ l. x ∷ l) (joined v w (omega arith))

pub join_zeros : (v w : List ℕ) → length v ≡ length w → join v (zeros (length w)) ≡ v
join_zeros v w h = joined v w h
