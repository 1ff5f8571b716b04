-- The newest snapshots by the numbers of their indexes, as the code holds them.
use Rattle.std.specs.Prelude.{◌≡◌, ℕ, List, length, map, Option, slice_get, option_map, option_and_then}
use Rattle.std.specs.Arc.{arc_value}
use Rattle.std.specs.declared.sync.Arc.{Arc}
use Rattle.std.specs.declared.alloc.Global.{Global}
use Rattle.index_def.specs.LiveIndexes.{numbered}
use Rattle.index_snapshot.specs.declared.snapshot.Snapshot.{Snapshot}
use Rattle.scan_history.specs.Fold.{State}
use Rattle.gsi_hub.specs.Snapshots.{IsNewestAmong}

abbrev pub newest_of : List (Option (Arc Snapshot Global)) → List (Option Snapshot)
newest_of newest = map (option_map arc_value) newest

abbrev pub newest_at : List (Option Snapshot) → ℕ → Option Snapshot
newest_at newest i = option_and_then (λ held. held) (slice_get newest i)

-- there is a place for each index that was made, and at it the newest snapshot of one that is live
pub record AreNewest (n : ℕ) (newest : List (Option Snapshot)) (s : State) : Type 0 where
  pub count : length newest ≡ length s.defs
  pub each : (i : ℕ) → IsNewestAmong n s (numbered i s.live) (newest_at newest i)
