-- What was accepted above a vector, as pieces.
use Rattle.std.specs.Prelude.{ℕ, ◌+◌, nat_lt, List, [], ◌∷◌, if◌then◌else◌}
use Rattle.std.specs.List.{flat_map, range_with_len}
use Rattle.seq_vector.specs.Vectors.{entry}
use Rattle.vb_store.specs.declared.mutation.Mutation.{Mutation}
use Rattle.vb_store.specs.Mutations.{high_of}
use Rattle.dcp_stream.specs.declared.piece.Piece.{Piece}
use Rattle.dcp_stream.specs.Pieces.{piece_of}

-- the numbers of a vBucket above one, up to another, as one piece in a marker of its own
abbrev pub piece_between : List Mutation → (vb after upto : ℕ) → Piece
piece_between log vb after upto = piece_of log (after + 1) (record { vb = vb; from = after + 1; to = upto; end = upto })

-- a vBucket's numbers above the vector's: none where there is no newer one
abbrev pub piece_above : List Mutation → (high after : List ℕ) → (vb : ℕ) → List Piece
piece_above log high after vb =
    (if nat_lt (entry after vb) (entry high vb) then piece_between log vb (entry after vb) (entry high vb) ∷ [] else [])

-- the same of each of the n vBuckets, in order
abbrev pub pieces_above : ℕ → List Mutation → List ℕ → List Piece
pieces_above n log after = flat_map (piece_above log (high_of n log) after) (range_with_len 0 n)
