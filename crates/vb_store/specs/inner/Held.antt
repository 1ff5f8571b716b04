-- What a store holds, and how it stands for the mutations that it accepted.
use Rattle.std.specs.Prelude.{◌≡◌, ℕ, ◌<◌, ◌≤◌, List, [], Option, length, map, slice_index_or, vec_len, vec_capacity}
use Rattle.std.specs.Arc.{arc_value}
use Rattle.std.specs.declared.sync.Arc.{Arc}
use Rattle.std.specs.declared.vec.Vec.{Vec}
use Rattle.vb_store.specs.declared.mutation.Mutation.{Mutation}
use Rattle.vb_store.specs.Mutations.{of_vbucket, IsNumbered, high_of, current_of}

-- the mutations of each list
abbrev pub lists_of : {Y Z : Type 0} → List (Vec (Arc Mutation Y) Z) → List (List Mutation)
lists_of vs = map (λ v. map arc_value v.items) vs

-- the lists by vBucket, the newest numbers and the last mutation of each id are those of the log
pub record IsKept (n : ℕ) (log : List Mutation) (lists : List (List Mutation)) (high : List ℕ) (last : List ℕ → Option Mutation) : Type 0 where
  pub some : 0 < n
  pub few : n ≤ 1024
  pub numbered : IsNumbered n log
  pub count : length lists ≡ n
  pub each : (vb : ℕ) → vb < n → slice_index_or lists vb [] ≡ of_vbucket vb log
  pub newest : high ≡ high_of n log
  pub last_is : (id : List ℕ) → last id ≡ current_of log id

-- the list of the vBucket has room for one more
abbrev pub HasRoom : {X Z : Type 0} → List (Vec X Z) → ℕ → Type 0
HasRoom {X} {Z} vs vb = (d : Vec X Z) → vec_len (slice_index_or vs vb d) < vec_capacity (slice_index_or vs vb d)
