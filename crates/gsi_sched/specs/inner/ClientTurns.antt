-- The machine at an action of a client.
use Rattle.std.specs.Prelude.{◌≡◌, ℕ, List, [], ◌∷◌, ◌++◌, Option, Some, IsSome, ⊤}
use Rattle.std.specs.Arc.{arc_value}
use Rattle.seq_vector.specs.Vectors.{IsCovered}
use Rattle.n1ql_ast.specs.FormedStatements.{IsFormedDdl}
use Rattle.index_snapshot.specs.declared.snapshot.Snapshot.{Snapshot}
use Rattle.index_snapshot.specs.Stands.{SnapshotStands}
use Rattle.scan_history.specs.declared.command.Command.{Command}
use Rattle.scan_history.specs.declared.script.Script.{Script}
use Rattle.scan_history.specs.Answers.{answers_of, started_definition}
use Rattle.scan_history.specs.Events.{Event, answer}
use Rattle.scan_history.specs.First.{command_at}
use Rattle.scan_history.specs.Fold.{Opened, nothing, work, started, State}
use Rattle.scan_history.specs.NextEvent.{next_event}
use Rattle.scan_history.specs.Readings.{Read, AreRead, IsRead, reads, faults}
use Rattle.scan_history.specs.Sound.{IsSound}
use Rattle.gsi_hub.specs.Commands.{IsChange, OnText, IsRequest}
use Rattle.gsi_hub.specs.Past.{Past, state_of, part_in, next_command}
use Rattle.gsi_sched.specs.Machine.{Machine, now_in, with_event}
use Rattle.gsi_sched.specs.ClientActions.{awaited_by}
use Rattle.gsi_sched.specs.Running.{IsRunning}
use Rattle.gsi_sched.specs.inner.SlotLists.{IsLiveNumber}
use Rattle.gsi_sched.specs.declared.machine.RunningMachine.{RunningMachine}
use Rattle.gsi_sched.specs.declared.machine.reading.Reading.{Reading}
use Rattle.gsi_sched.specs.declared.machine.reading.Reading.TheVariants as reading
use Rattle.gsi_sched.specs.inner.Following.{Keeps, Follows, IsAhead, Goes}

-- what a text is
abbrev pub IsReadText : List ℕ → Reading → Type 0
IsReadText text (reading.Statement read) = IsRead text (reads read) × IsFormedDdl read
IsReadText text (reading.Fault at) = IsRead text (faults at)
IsReadText text _ = ⊥

-- what a command is, once its text is read
abbrev pub IsReadingOf : Option Command → Reading → Type 0
IsReadingOf command reading.Change = IsChange command
IsReadingOf command reading.Request = IsRequest command
IsReadingOf command read = OnText command (λ text. IsReadText text read)

-- nothing is open for a client, and it has one more command
pub record IsIdle (p : Past) (c : ℕ) : Type 0 where
  pub opened : (part_in p c).opened ≡ nothing
  pub more : IsSome (next_command p c)

-- what is open is the building of indexes
abbrev pub IsWork : Opened → Type 0
IsWork (work indexes since) = ⊤
IsWork _ = ⊥

abbrev pub IsBuildingFor : Past → ℕ → Type 0
IsBuildingFor p c = IsWork (part_in p c).opened

-- what is open is a request, on an index of this number
abbrev pub IsStarted : Opened → (ℕ → Type 0) → Type 0
IsStarted (started i demand since) IsIndex = IsIndex i
IsStarted _ IsIndex = ⊥

abbrev pub IsRequestOn : Past → ℕ → ℕ → Type 0
IsRequestOn p c i = IsStarted (part_in p c).opened (λ j. j ≡ i)

abbrev pub IsRequestOpen : Past → ℕ → Type 0
IsRequestOpen p c = IsStarted (part_in p c).opened (λ j. ⊤)

-- the client's next event came, and what it leads to hasn't happened yet
pub record HasComeNext (c : ℕ) (old new : RunningMachine) : Type 0 where
  pub script : new.hub.script ≡ old.hub.script
  pub ahead : (read : List ℕ → Read) → AreRead read → (m : Machine) → Follows m old
      → (e : Event) × (next_event read old.hub.script (now_in old.hub.script.vbuckets m) c ≡ Some e) × IsAhead e m new

-- the machine that was followed still is
abbrev pub IsStill : RunningMachine → RunningMachine → Type 0
IsStill old new = Goes (λ m. m) old new

-- an index is the first of those that a client's command waits for
abbrev pub IsFirstOf : ℕ → List ℕ → Type 0
IsFirstOf i [] = ⊥
IsFirstOf i (j ∷ js) = i ≡ j

abbrev pub IsFirstAwaited : (c i : ℕ) → RunningMachine → Type 0
IsFirstAwaited c i r = (read : List ℕ → Read) → AreRead read → (m : Machine) → Follows m r → IsFirstOf i (awaited_by read r.hub.script c m)

-- a client's command waits for no index
abbrev pub AwaitsNone : ℕ → RunningMachine → Type 0
AwaitsNone c r = (read : List ℕ → Read) → AreRead read → (m : Machine) → Follows m r → awaited_by read r.hub.script c m ≡ []

-- the index of a client's request is live, and its newest publication is at this vector, which doesn't cover the demand
abbrev pub IsShort : State → List ℕ → Opened → Type 0
IsShort s at (started i demand since) = IsLiveNumber s i × (at ≡ s.published i) × (¬ IsCovered demand at)
IsShort s at _ = ⊥

abbrev pub IsShortOf : (c : ℕ) → (at : List ℕ) → RunningMachine → Type 0
IsShortOf c at r = IsShort (state_of r.hub) at (part_in r.hub c).opened

-- a client's command at a place is a scan
abbrev pub IsScanAt : Script → (c k : ℕ) → Type 0
IsScanAt script c k = IsRequest (command_at script c k)

-- A client's answer has come, and its text isn't there yet.
pub record IsUntold (c k : ℕ) (at : List ℕ) (m : Machine) (r : RunningMachine) : Type 0 where
  pub sound : IsSound r.hub.script
  pub script : arc_value r.script ≡ r.hub.script
  pub runs_on : IsRunning r.hub.script (with_event (answer c k at) m)
  pub events : r.hub.events ≡ m.events ++ answer c k at ∷ []
  pub keeps : Keeps r.hub.script.vbuckets (now_in r.hub.script.vbuckets m) m r
  pub answers : r.answers ≡ answers_of r.hub.script m.events

-- a snapshot of the index of a client's request, at this vector
pub record IsSnapshotFor (n c : ℕ) (at : List ℕ) (m : Machine) (x : Snapshot) : Type 0 where
  pub def : started_definition (now_in n m) c ≡ Some (arc_value x.def)
  pub vector : arc_value x.vector ≡ at
  pub stands : SnapshotStands n (now_in n m).log x

-- an answer's text is missing, and this snapshot has its rows
abbrev pub IsUntoldFrom : Snapshot → RunningMachine → Type 0
IsUntoldFrom x r = (m : Machine) × (c : ℕ) × (k : ℕ) × (at : List ℕ) × IsUntold c k at m r × IsSnapshotFor r.hub.script.vbuckets c at m x × IsScanAt r.hub.script c k

-- it is there now
pub record IsTold (old new : RunningMachine) : Type 0 where
  pub script : new.hub.script ≡ old.hub.script
  pub follows : (m : Machine) (c k : ℕ) (at : List ℕ) → IsUntold c k at m old → Follows (with_event (answer c k at) m) new

-- the last event is an answer to a client's command
abbrev pub EndsInAnswer : (c k : ℕ) → List Event → Type 0
EndsInAnswer c k events = (before : List Event) × (at : List ℕ) × (events ≡ before ++ answer c k at ∷ [])
