-- What the crates below promise of vectors and of the newest numbers.
use Rattle.std.specs.Prelude.{◌≡◌, ℕ, List, [], ◌∷◌, ◌++◌, length, slice_set}
use Rattle.seq_vector.specs.Vectors.{IsCovered, join, zeros}
use Rattle.vb_store.specs.declared.mutation.Mutation.{Mutation}
use Rattle.vb_store.specs.Mutations.{IsNumbered, IsNext, high_of}

pub record Known : Type 0 where
  pub reflexive : (v : List ℕ) → IsCovered v v
  pub transitive : (u v w : List ℕ) → length u ≡ length v → IsCovered u v → IsCovered v w → IsCovered u w
  pub join_size : (v w : List ℕ) → length v ≡ length w → length (join v w) ≡ length v
  pub join_least : (v w u : List ℕ) → length v ≡ length w → IsCovered v u → IsCovered w u → IsCovered (join v w) u
  pub high_size : (n : ℕ) (log : List Mutation) → length (high_of n log) ≡ n
  pub high_none : (n : ℕ) → high_of n [] ≡ zeros n
  pub high_grows : (n : ℕ) (log more : List Mutation) → IsCovered (high_of n log) (high_of n (log ++ more))
  pub high_next : (n : ℕ) (log : List Mutation) (m : Mutation) → IsNext n log m → high_of n (log ++ m ∷ []) ≡ slice_set (high_of n log) m.vb m.seqno
  pub numbered_next : (n : ℕ) (log : List Mutation) (m : Mutation) → IsNumbered n log → IsNext n log m → IsNumbered n (log ++ m ∷ [])
