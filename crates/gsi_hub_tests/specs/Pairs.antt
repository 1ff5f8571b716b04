-- Scripts of two clients among two vBuckets, and what tests know of their hubs.
use Rattle.std.specs.Prelude.{◌≡◌, ◌≢◌, ℕ, ◌≤◌, List, [], ◌∷◌, ◌++◌, length, IfSome}
use Rattle.std.specs.Arc.{arc_value}
use Rattle.std.specs.List.{AllByRecursion}
use Rattle.n1ql_value.specs.declared.state.State.TheVariants.{Deferred}
use Rattle.index_def.specs.LiveIndexes.{numbered}
use Rattle.index_snapshot.specs.declared.snapshot.Snapshot.{Snapshot}
use Rattle.index_snapshot.specs.Stands.{SnapshotStands}
use Rattle.scan_history.specs.declared.command.Command.{Command}
use Rattle.scan_history.specs.declared.script.Script.{Script}
use Rattle.scan_history.specs.Sound.{IsWithinBounds}
use Rattle.gsi_hub.specs.Past.{Past, state_of}

-- a script of two clients among two vBuckets
abbrev pub IsPair : Script → Type 0
IsPair script = (script.clients ≡ 2) × (script.vbuckets ≡ 2)

-- few commands, each within its bounds, stand behind the other lists
pub record AddsCommands (old new : List (List Command)) : Type 0 where
  pub commands : List Command
  pub added : new ≡ old ++ commands ∷ []
  pub within : AllByRecursion (IsWithinBounds 2) commands
  pub few : length commands ≤ 100

-- a hub takes this snapshot
pub record IsTaken (p : Past) (s : Snapshot) : Type 0 where
  pub stands : SnapshotStands p.script.vbuckets (state_of p).log s
  pub served : IfSome (numbered s.index (state_of p).live) (λ index. (index.def ≡ arc_value s.def) × (index.state ≢ Deferred))
