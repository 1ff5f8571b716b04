-- The mutation list: what was accepted, in order of acceptance.
use Rattle.std.specs.Prelude.{◌≡◌, ℕ, ◌+◌, List, [], ◌∷◌, ◌++◌, Option, Some, None, length, map, ◌==◌, ◌&&◌, nat_lt, nat_le, if◌then◌else◌, ⊤}
use Rattle.std.specs.List.{filter, fold, range_with_len}
use Rattle.std.specs.Str.{bytes_eq}
use Rattle.n1ql_value.specs.declared.value.Value.{Value}
use Rattle.seq_vector.specs.Vectors.{vbucket_of}
use Rattle.vb_store.specs.declared.mutation.Mutation.{Mutation}

-- the mutations of a vBucket, in order
abbrev pub of_vbucket : ℕ → List Mutation → List Mutation
of_vbucket vb log = filter (λ m. m.vb == vb) log

-- how many there are
abbrev pub count_of : ℕ → List Mutation → ℕ
count_of vb log = length (of_vbucket vb log)

-- m may stand behind the mutations before it: it is of the vBucket of its id, and has the next number there
pub record IsNext (n : ℕ) (before : List Mutation) (m : Mutation) : Type 0 where
  pub bucket : m.vb ≡ vbucket_of m.id n
  pub number : m.seqno ≡ count_of m.vb before + 1

-- each of the mutations may stand behind those before it
abbrev pub IsNumberedBehind : ℕ → List Mutation → List Mutation → Type 0
IsNumberedBehind n before [] = ⊤
IsNumberedBehind n before (m ∷ ms) = IsNext n before m × IsNumberedBehind n (before ++ m ∷ []) ms

-- the numbers of each of the n vBuckets are 1, 2, 3 and so on
abbrev pub IsNumbered : ℕ → List Mutation → Type 0
IsNumbered n log = IsNumberedBehind n [] log

-- the newest number of each of the n vBuckets: the count of its mutations
abbrev pub high_of : ℕ → List Mutation → List ℕ
high_of n log = map (λ vb. count_of vb log) (range_with_len 0 n)

-- the mutations of a vBucket whose numbers are above `after` and at most `upto`
abbrev pub slice_of : List Mutation → ℕ → ℕ → ℕ → List Mutation
slice_of log vb after upto = filter (λ m. nat_lt after m.seqno && nat_le m.seqno upto) (of_vbucket vb log)

-- the last mutation of an id
abbrev pub current_of : List Mutation → List ℕ → Option Mutation
current_of log id = fold (λ last m. if bytes_eq id m.id then Some m else last) None log

-- the mutation of a change of the id that comes next
abbrev pub next_mutation : ℕ → List Mutation → List ℕ → Option Value → Mutation
next_mutation n log id body =
    let vb = vbucket_of id n in
    record { vb = vb; seqno = count_of vb log + 1; id = id; body = body }
