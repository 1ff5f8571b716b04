-- The streams of the indexes.
use Rattle.std.specs.Prelude.{◌≡◌, ℕ, List, length, Option, OnSome}
use Rattle.std.specs.FinMap as map
use Rattle.std.specs.Ordering.{nat_cmp}
use Rattle.std.specs.Borrow.{MutBor, Lends, LendsSo, Fml}
use Rattle.seq_vector.specs.Vectors.{zeros}
use Rattle.dcp_stream.specs.Streams.{unread}
use Rattle.dcp_stream.specs.Pieces.{Marked, back_to}
use Rattle.dcp_stream.specs.contracts.position.Position as position
use Rattle.stream_merge.specs.Joined.{Joined}
use Rattle.stream_merge.specs.contracts.streams.Streams.{the_row}

-- a stream of n vBuckets that has given nothing
abbrev pub begun : ℕ → Marked
begun n = record { stream = unread n; began = zeros n }

-- the index has an initial stream no longer
abbrev pub without_initial : (number : ℕ) → Joined → Joined
without_initial number s = record s { initial = map.remove s.initial number }

-- the maintenance stream goes back to where an index stands, which then has an initial stream no longer
abbrev pub merged : (number : ℕ) → (at : List ℕ) → Joined → Joined
merged number at s = record { maint = back_to at s.maint; initial = map.remove s.initial number }

-- what is written behind r becomes the maintenance stream
abbrev pub LendsMaint : MutBor Joined → MutBor Marked → Fml
LendsMaint s r = Lends the_row position.the_row s r (λ w. record s.now { maint = w })

-- what is written behind r, where there is such, becomes the initial stream of the index
abbrev pub LendsInitial : MutBor Joined → ℕ → Option (MutBor Marked) → Fml
LendsInitial s number r =
    LendsSo the_row position.the_row s r (λ n w. OnSome r (n ≡ record s.now { initial = map.insert s.now.initial number w })) (λ n. n ≡ s.now)
