-- Pieces of mutations: what one stands for, and which one a stream gives next.
use Rattle.std.specs.Prelude.{◌≡◌, ℕ, ◌+◌, ◌-◌, ◌==◌, ◌<◌, ◌≤◌, List, length, slice_set, Option, if◌then◌else◌}
use Rattle.std.specs.Option.{option_map, option_map_or}
use Rattle.seq_vector.specs.Vectors.{entry, IsCovered}
use Rattle.vb_store.specs.declared.mutation.Mutation.{Mutation}
use Rattle.vb_store.specs.Mutations.{IsNumbered, high_of, slice_of}
use Rattle.dcp_stream.specs.declared.piece.Piece.{Piece}
use Rattle.dcp_stream.specs.Streams.{Stream, Bounds, IsStream, next_bounds, passed, lowered, rewound}

-- a piece without its mutations
abbrev pub bounds_of : Piece → Bounds
bounds_of p = record { vb = p.vb; from = p.from; to = p.to; end = p.end }

-- a piece holds the mutations of its vBucket with its numbers, which lie in its marker, and that in what was accepted
pub record PieceStands (n : ℕ) (log : List Mutation) (p : Piece) : Type 0 where
  pub numbered : IsNumbered n log
  pub vbucket : p.vb < n
  pub begins : 1 ≤ p.start
  pub first : p.start ≤ p.from
  pub some : p.from ≤ p.to
  pub last : p.to ≤ p.end
  pub reached : p.end ≤ entry (high_of n log) p.vb
  pub holds : p.muts ≡ slice_of log p.vb (p.from - 1) p.to

-- a stream that knows where its markers began: where it stood then
pub record Marked : Type 0 where
  pub stream : Stream
  pub began : List ℕ

-- it stands behind the beginnings of its markers
pub record IsMarked (s : Stream) (began : List ℕ) : Type 0 where
  pub stream : IsStream s
  pub size : length began ≡ length s.at
  pub after_begin : IsCovered began s.at

-- the first number of the marker that the next piece lies in: at the end of one marker another begins
abbrev pub marker_start : (at end began : ℕ) → ℕ
marker_start at end began = (if at == end then at else began) + 1

-- the mutations with a piece's numbers, as a piece of a marker that begins at `start`
abbrev pub piece_of : List Mutation → (start : ℕ) → Bounds → Piece
piece_of log start b = record {
  vb = b.vb;
  start = start;
  end = b.end;
  from = b.from;
  to = b.to;
  muts = slice_of log b.vb (b.from - 1) b.to;
}

-- the next piece of a stream, of at most so many mutations
abbrev pub next_piece : ℕ → List Mutation → (most vb : ℕ) → Marked → Option Piece
next_piece n log most vb m =
    let start = marker_start (entry m.stream.at vb) (entry m.stream.ends vb) (entry m.began vb) in
    option_map (piece_of log start) (next_bounds (high_of n log) most vb m.stream)

-- a stream that has given a piece
abbrev pub after : Piece → Marked → Marked
after p m = record { stream = passed (bounds_of p) m.stream; began = slice_set m.began p.vb (p.start - 1) }

-- a stream that has given its next piece, where there is one
abbrev pub after_any : Option Piece → Marked → Marked
after_any piece m = option_map_or (λ p. after p m) piece m

-- a stream that went back to a vector: what it fell back in begins with a marker of its own
abbrev pub back_to : (to : List ℕ) → Marked → Marked
back_to to m = record { stream = rewound to m.stream; began = lowered m.stream.at to m.began }
