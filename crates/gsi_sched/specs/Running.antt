-- What holds of the machine at every step.
use Rattle.std.specs.Prelude.{◌≡◌, ◌≢◌, ◌⊎◌, ℕ, ◌<◌, ◌≤◌, List, [], ◌∷◌, length, Some}
use Rattle.std.specs.List.{AllByRecursion}
use Rattle.seq_vector.specs.Vectors.{entry, IsCovered}
use Rattle.vb_store.specs.Mutations.{high_of}
use Rattle.n1ql_value.specs.declared.state.State.TheVariants.{Deferred}
use Rattle.index_def.specs.LiveIndexes.{Live, numbered}
use Rattle.dcp_stream.specs.Streams.{Stream, Bounds, IsStream, unread}
use Rattle.scan_history.specs.declared.script.Script.{Script}
use Rattle.scan_history.specs.Fold.{Opened, work, started, State}
use Rattle.scan_history.specs.Legal.{IsLegal}
use Rattle.gsi_sched.specs.Machine.{Worker, Machine, idle, now_in}

-- a piece's numbers lie in its marker, and that in what was accepted
pub record IsWithinHigh (high : List ℕ) (b : Bounds) : Type 0 where
  pub vbucket : b.vb < length high
  pub begins : 1 ≤ b.from
  pub some : b.from ≤ b.to
  pub last : b.to ≤ b.end
  pub reached : b.end ≤ entry high b.vb

-- the markers of a stream end nowhere above the newest numbers
pub record IsFlowing (high : List ℕ) (s : Stream) : Type 0 where
  pub stream : IsStream s
  pub size : length s.at ≡ length high
  pub reached : IsCovered s.ends high

-- a worker has come at least as far as its index was published, and is nowhere above the newest numbers; nor is a piece that waits
pub record IsServed (high published : List ℕ) (w : Worker) : Type 0 where
  pub size : length w.at ≡ length high
  pub forth : IsCovered published w.at
  pub reached : IsCovered w.at high
  pub inbox : AllByRecursion (IsWithinHigh high) w.inbox

-- where the index is live, it isn't deferred
abbrev pub IsBuilt : List Live → ℕ → Type 0
IsBuilt live i = (index : Live) → numbered i live ≡ Some index → index.state ≢ Deferred

-- it is live, and isn't deferred
abbrev pub IsWorking : List Live → ℕ → Type 0
IsWorking live i = (index : Live) × (numbered i live ≡ Some index) × (index.state ≢ Deferred)

-- its building hasn't begun: it wasn't made, or is deferred
abbrev pub HasNotBegun : State → ℕ → Type 0
HasNotBegun s i = (length s.defs ≤ i) ⊎ ((index : Live) × (numbered i s.live ≡ Some index) × (index.state ≡ Deferred))

-- the indexes that an open command builds, or asks
abbrev pub indexes_of : Opened → List ℕ
indexes_of (work numbers since) = numbers
indexes_of (started i demand since) = i ∷ []
indexes_of _ = []

-- The streams and workers, where s is what the events left. Before the building of an index begins, nothing was sent to it.
pub record IsServing (n : ℕ) (s : State) (m : Machine) : Type 0 where
  pub maint : IsFlowing (high_of n s.log) m.maint
  pub initial : (i : ℕ) → IsFlowing (high_of n s.log) (m.initial i)
  pub worker : (i : ℕ) → IsServed (high_of n s.log) (s.published i) (m.worker i)
  pub fresh : (i : ℕ) → HasNotBegun s i → (m.worker i ≡ idle n) × (m.initial i ≡ unread n)

-- the history is legal, the streams and workers fit it, and no open command is about a deferred index
pub record IsRunning (script : Script) (m : Machine) : Type 0 where
  pub legal : IsLegal script m.events
  pub serving : IsServing script.vbuckets (now_in script.vbuckets m) m
  pub built : (c : ℕ) → AllByRecursion (IsBuilt (now_in script.vbuckets m).live) (indexes_of ((now_in script.vbuckets m).client c).opened)
