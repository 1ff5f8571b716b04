-- Streams by their numbers alone: what one gives next, where it stands then, and how it goes back.
use Rattle.std.specs.Prelude.{◌≡◌, ℕ, ◌+◌, ◌==◌, nat_lt, List, length, map, min, slice_set, Option, Some, None, if◌then◌else◌}
use Rattle.std.specs.List.{range_with_len}
use Rattle.std.specs.Option.{option_map_or}
use Rattle.seq_vector.specs.Vectors.{entry, meet, zeros, IsCovered}

-- how far a stream has come in each vBucket, and where its marker ends there
pub record Stream : Type 0 where
  pub at : List ℕ
  pub ends : List ℕ

-- what a piece tells without its mutations: its vBucket, its first and its last number, and where its marker ends
pub record Bounds : Type 0 where
  pub vb : ℕ
  pub from : ℕ
  pub to : ℕ
  pub end : ℕ

-- a stream of n vBuckets that has given nothing
abbrev pub unread : ℕ → Stream
unread n = record { at = zeros n; ends = zeros n }

-- a stream stands in its markers, or at their ends
pub record IsStream (s : Stream) : Type 0 where
  pub size : length s.ends ≡ length s.at
  pub before_end : IsCovered s.at s.ends

-- the last number of the marker that the next piece lies in: at the end of one marker another begins, which goes to the
-- newest number
abbrev pub marker_end : (at end high : ℕ) → ℕ
marker_end at end high = if at == end then high else end

-- the next numbers, at most so many, and no further than the marker: where the stream has come to the newest number, none
abbrev pub next_bounds : (high : List ℕ) → (most vb : ℕ) → Stream → Option Bounds
next_bounds high most vb s =
    let at = entry s.at vb in
    let end = marker_end at (entry s.ends vb) (entry high vb) in
    if at == entry high vb then None else Some (record { vb = vb; from = at + 1; to = min (at + most) end; end = end })

-- a stream that has given a piece
abbrev pub passed : Bounds → Stream → Stream
passed b s = record { at = slice_set s.at b.vb b.to; ends = slice_set s.ends b.vb b.end }

-- a stream that has given its next piece, where there is one
abbrev pub advanced : (high : List ℕ) → (most vb : ℕ) → Stream → Stream
advanced high most vb s = option_map_or (λ b. passed b s) (next_bounds high most vb s) s

-- the number x, and in place of it the number to go back to where a position at `at` falls back
abbrev pub lowered_to : (at to x : ℕ) → ℕ
lowered_to at to x = if nat_lt to at then to else x

-- the same at each vBucket
abbrev pub lowered : (at to xs : List ℕ) → List ℕ
lowered at to xs = map (λ vb. lowered_to (entry at vb) (entry to vb) (entry xs vb)) (range_with_len 0 (length xs))

-- a stream that went back to a vector: where it fell back, its marker ends where it stands
abbrev pub rewound : (to : List ℕ) → Stream → Stream
rewound to s = record { at = meet s.at to; ends = lowered s.at to s.ends }
