-- The streams of the indexes, and what changes in them.
use Rattle.std.specs.Prelude.{◌≡◌, ℕ, List, length, Option, slice_get, IsSomeAnd, fold}
use Rattle.std.specs.Option.{option_map_or}
use Rattle.std.specs.FinMap as map
use Rattle.seq_vector.specs.Vectors.{IsCovered}
use Rattle.vb_store.specs.Accepted.{Accepted}
use Rattle.vb_store.specs.Mutations.{high_of}
use Rattle.dcp_stream.specs.Pieces.{Marked}
use Rattle.stream_merge.specs.Joined.{Joined}
use Rattle.stream_merge.specs.Merging.{begun, merged}
use Rattle.gsi_sched.specs.Slots.{Slot}

-- a stream has a number for each vBucket, and its markers end in what was accepted
pub record IsReachedBy (store : Accepted) (m : Marked) : Type 0 where
  pub size : length m.stream.at ≡ store.vbuckets
  pub reached : IsCovered m.stream.ends (high_of store.vbuckets store.log)

-- an index has an initial stream, and this holds of it
abbrev pub OnInitial : ℕ → (Marked → Type 0) → Joined → Type 0
OnInitial i Holds streams = IsSomeAnd (map.get streams.initial i) Holds

abbrev pub with_begun_stream : (n i : ℕ) → Joined → Joined
with_begun_stream n i streams = record streams { initial = map.insert streams.initial i (begun n) }

-- the maintenance stream goes back to where the worker of an index is, where there is one
abbrev pub merged_at : List (Option Slot) → ℕ → Joined → Joined
merged_at slots i streams = option_map_or (λ (found : Option Slot). option_map_or (λ (slot : Slot). merged i slot.worker.taken.at streams) found streams) (slice_get slots i) streams

abbrev pub merged_all : List (Option Slot) → List ℕ → Joined → Joined
merged_all slots is streams = fold (λ streams i. merged_at slots i streams) streams is

-- the initial streams of several
abbrev pub with_begun_streams : ℕ → List ℕ → Joined → Joined
with_begun_streams n is streams = fold (λ streams i. with_begun_stream n i streams) streams is
