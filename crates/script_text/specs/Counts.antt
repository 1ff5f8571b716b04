-- Counting the mutations of each vBucket, event by event.
use Rattle.std.specs.Prelude.{ℕ, ◌+◌, List, slice_set}
use Rattle.seq_vector.specs.Vectors.{entry}
use Rattle.scan_history.specs.Events.{Event, mutate}

-- the counts after one more event
abbrev pub counted : List ℕ → Event → List ℕ
counted high (mutate c k what) = slice_set high what.vb (entry high what.vb + 1)
counted high _ = high
