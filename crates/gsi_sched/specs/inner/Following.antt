-- What the code keeps, and the machine of the definition that it follows.
use Rattle.std.specs.Prelude.{◌≡◌, ◌≢◌, ℕ, List, [], ◌∷◌, ◌++◌, length, Option, Some, slice_get, option_map}
use Rattle.std.specs.Arc.{arc_value}
use Rattle.std.specs.FinMap as map
use Rattle.n1ql_value.specs.Limits.{max_indexes}
use Rattle.n1ql_value.specs.declared.state.State.TheVariants.{Deferred, Building}
use Rattle.index_def.specs.LiveIndexes.{Live, numbered}
use Rattle.dcp_stream.specs.Pieces.{Marked}
use Rattle.dcp_stream.specs.Streams.{Stream}
use Rattle.scan_history.specs.Answers.{answers_of}
use Rattle.scan_history.specs.Events.{Event}
use Rattle.scan_history.specs.Fold.{State}
use Rattle.scan_history.specs.Readings.{Read, AreRead}
use Rattle.scan_history.specs.Sound.{IsSound}
use Rattle.gsi_hub.specs.Past.{state_of}
use Rattle.gsi_sched.specs.Machine.{Worker, Machine, now_in, with_worker}
use Rattle.gsi_sched.specs.ClientActions.{happened}
use Rattle.gsi_sched.specs.Running.{IsRunning}
use Rattle.gsi_sched.specs.Slots.{Slot, IsKept}
use Rattle.gsi_sched.specs.inner.SlotLists.{OnSlot, IsWorkingNumber}
use Rattle.gsi_sched.specs.declared.machine.RunningMachine.{RunningMachine}

-- the slot of a building or online index is there; it is kept, and its worker has the index's number
abbrev pub IsSlotOf : ℕ → State → ℕ → Live → Worker → Option (Option Slot) → Type 0
IsSlotOf n s i index w (Some (Some slot)) = IsKept n s.log index.def slot w × (slot.worker.index ≡ i)
IsSlotOf n s i index w _ = ⊥

-- an initial stream by its numbers, where there is one
abbrev pub initial_numbers : Option Marked → Option Stream
initial_numbers found = option_map (λ (x : Marked). x.stream) found

-- The streams and the slots are the machine's, where s is the state: of the initial streams those of the building indexes, and of the slots
-- those of the building and the online ones. Of other numbers nothing is said, since no step reads them.
pub record Keeps (n : ℕ) (s : State) (m : Machine) (r : RunningMachine) : Type 0 where
  pub maint : r.streams.maint.stream ≡ m.maint
  pub initial : (i : ℕ) (index : Live) → numbered i s.live ≡ Some index → index.state ≡ Building
      → initial_numbers (map.get r.streams.initial i) ≡ Some (m.initial i)
  pub slots : (i : ℕ) (index : Live) → numbered i s.live ≡ Some index → index.state ≢ Deferred
      → IsSlotOf n s i index (m.worker i) (slice_get r.slots.items i)
  pub places : length r.slots.items ≡ max_indexes

-- The machine runs, its events are the hub's, and all else fits it; the answers are those of the events.
pub record Follows (m : Machine) (r : RunningMachine) : Type 0 where
  pub sound : IsSound r.hub.script
  pub script : arc_value r.script ≡ r.hub.script
  pub runs : IsRunning r.hub.script m
  pub events : r.hub.events ≡ m.events
  pub keeps : Keeps r.hub.script.vbuckets (now_in r.hub.script.vbuckets m) m r
  pub answers : r.answers ≡ answers_of r.hub.script r.hub.events

-- The hub is one event ahead: the streams and the slots are still those from before it.
pub record IsAhead (e : Event) (m : Machine) (r : RunningMachine) : Type 0 where
  pub sound : IsSound r.hub.script
  pub script : arc_value r.script ≡ r.hub.script
  pub runs : IsRunning r.hub.script m
  pub runs_on : IsRunning r.hub.script (happened m e)
  pub events : r.hub.events ≡ m.events ++ e ∷ []
  pub keeps : Keeps r.hub.script.vbuckets (now_in r.hub.script.vbuckets m) m r
  pub answers : r.answers ≡ answers_of r.hub.script r.hub.events

-- some machine is followed
abbrev pub IsFollowing : RunningMachine → Type 0
IsFollowing r = (m : Machine) × Follows m r

abbrev pub IsOneAhead : RunningMachine → Type 0
IsOneAhead r = (m : Machine) × (e : Event) × IsAhead e m r

-- Whatever machine was followed, the one after this step is; the script is the same.
pub record Goes (step : Machine → Machine) (old new : RunningMachine) : Type 0 where
  pub script : new.hub.script ≡ old.hub.script
  pub follows : (m : Machine) → Follows m old → Follows (step m) new

-- the same of a step that reads statements
pub record GoesReading (step : (List ℕ → Read) → Machine → Machine) (old new : RunningMachine) : Type 0 where
  pub script : new.hub.script ≡ old.hub.script
  pub follows : (read : List ℕ → Read) → AreRead read → (m : Machine) → Follows m old → Follows (step read m) new

-- what the newest event leads to has happened
pub record HasHappened (old new : RunningMachine) : Type 0 where
  pub script : new.hub.script ≡ old.hub.script
  pub follows : (m : Machine) (e : Event) → IsAhead e m old → Follows (happened m e) new

abbrev pub IsBuildingIn : RunningMachine → ℕ → Type 0
IsBuildingIn r i = (index : Live) × (numbered i (state_of r.hub).live ≡ Some index) × (index.state ≡ Building)

-- the worker of an index is at a vector
abbrev pub IsAt : RunningMachine → ℕ → List ℕ → Type 0
IsAt r i at = OnSlot (λ slot. slot.worker.taken.at ≡ at) (slice_get r.slots.items i)

-- the worker of an index comes to a vector
abbrev pub with_worker_at : List ℕ → ℕ → Machine → Machine
with_worker_at at i m = with_worker i (record (m.worker i) { at = at }) m

-- an index of the hub is building or online
abbrev pub IsWorkingIn : RunningMachine → ℕ → Type 0
IsWorkingIn r i = IsWorkingNumber (state_of r.hub) i
