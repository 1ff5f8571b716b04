-- Vectors: a list with a number for each vBucket. The number of a vBucket is how far something has come in it.
use Rattle.std.specs.Prelude.{ℕ, suc, Bool, Option, Some, None, option_map, nat_lt, if◌then◌else◌, drop, ◌*◌, ◌%◌, ◌^◌, ◌<◌, ◌≤◌, List, [], ◌∷◌, min, max, length, replicate, slice_index, bit_xor}
use Rattle.std.specs.Prelude.{fold}
use Rattle.std.specs.Option.{is_none}

-- the number at a vBucket
abbrev pub entry : List ℕ → ℕ → ℕ
entry v vb = slice_index v vb

-- each entry of v is at most that of w
abbrev pub IsCovered : List ℕ → List ℕ → Type 0
IsCovered v w = (vb : ℕ) → vb < length v → entry v vb ≤ entry w vb

-- vb is the least vBucket at which have does not reach want
pub record IsFirstShort (have want : List ℕ) (vb : ℕ) : Type 0 where
  pub within : vb < length want
  pub short : entry have vb < entry want vb
  pub before : (k : ℕ) → k < vb → entry want k ≤ entry have k

-- the least vBucket at which have does not reach want, or none
abbrev pub first_short : List ℕ → List ℕ → Option ℕ
first_short have [] = None
first_short have (w ∷ ws) = (if nat_lt (entry have 0) w then Some 0 else option_map suc (first_short (drop 1 have) ws))

-- have reaches want at each vBucket
abbrev pub covers : List ℕ → List ℕ → Bool
covers have want = is_none (first_short have want)

-- f of the two numbers at each vBucket
abbrev pub pointwise : (ℕ → ℕ → ℕ) → List ℕ → List ℕ → List ℕ
pointwise f [] ws = []
pointwise f (v ∷ vs) [] = []
pointwise f (v ∷ vs) (w ∷ ws) = f v w ∷ pointwise f vs ws

-- the least vector that covers both, and the greatest that both cover
abbrev pub join : List ℕ → List ℕ → List ℕ
join v w = pointwise max v w

abbrev pub meet : List ℕ → List ℕ → List ℕ
meet v w = pointwise min v w

-- the vector of n vBuckets in which nothing has come yet
abbrev pub zeros : ℕ → List ℕ
zeros n = replicate n 0

-- the step of FNV-1a of 32 bits: the exclusive or with the byte, times the prime
abbrev pub with_byte : ℕ → ℕ → ℕ
with_byte hash byte = bit_xor hash byte * 16777619 % 2 ^ 32

-- FNV-1a of 32 bits, from its offset basis on
unfoldable pub fnv1a : List ℕ → ℕ
fnv1a bytes = fold with_byte 2166136261 bytes

-- the vBucket of an id among n
abbrev pub vbucket_of : List ℕ → ℕ → ℕ
vbucket_of id n = fnv1a id % n
