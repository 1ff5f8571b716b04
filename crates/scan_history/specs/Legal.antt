-- Which histories are legal, and which are finished.
use Rattle.std.specs.Prelude.{◌≡◌, ◌≢◌, ◌⊎◌, ℕ, ◌<◌, Bool, true, false, List, [], ◌∷◌, length, filter, Option, Some, None, MatchOption, is_some, ⊤}
use Rattle.std.specs.List.{AllByRecursion}
use Rattle.seq_vector.specs.Vectors.{IsCovered}
use Rattle.vb_store.specs.Mutations.{high_of}
use Rattle.n1ql_value.specs.declared.state.State.TheVariants.{Deferred, Online}
use Rattle.index_def.specs.LiveIndexes.{Live, numbered}
use Rattle.scan_history.specs.declared.command.Command.{Command}
use Rattle.scan_history.specs.declared.command.Command.TheVariants.{Scan}
use Rattle.scan_history.specs.declared.script.Script.{Script}
use Rattle.scan_history.specs.declared.why.Why.TheVariants.{Plain}
use Rattle.scan_history.specs.Events.{Event, mutate, define, build, online, publish, removed, start, answer, pick, fetch, not_yet, refuse}
use Rattle.scan_history.specs.Fold.{Opened, nothing, work, started, picked, State, first_state, step}
use Rattle.scan_history.specs.Readings.{Read, AreRead}
use Rattle.scan_history.specs.First.{first_action, command_at, commands_of}
use Rattle.scan_history.specs.Refusals as code

-- what holds of the live index of a number, which there has to be
abbrev pub IfLive : ℕ → State → (Live → Type 0) → Type 0
IfLive i s Holds = MatchOption (numbered i s.live) ⊥ Holds

-- nothing is open, and this is the first action of the client's next command
abbrev pub IsFirst : (List ℕ → Read) → Script → State → ℕ → Event → Type 0
IsFirst read script s c e = ((s.client c).opened ≡ nothing) × (first_action read script s c ≡ Some e)

-- A publication goes on: its index isn't deferred, and its vector, an entry for each vBucket, covers the one before, is another, and is
-- covered by the newest numbers.
pub record GoesOn (high board at : List ℕ) (index : Live) : Type 0 where
  pub served : index.state ≢ Deferred
  pub size : length at ≡ length high
  pub forth : IsCovered board at
  pub reached : IsCovered at high
  pub other : at ≢ board

-- the live indexes among these
abbrev pub live_among : List ℕ → State → List ℕ
live_among numbers s = filter (λ i. is_some (numbered i s.live)) numbers

-- building may end with these online: they are the live ones, at least one, and the newest publication of each covers where it began
abbrev pub MayGoOnline : State → List ℕ → Opened → Type 0
MayGoOnline s indexes (work numbers high) =
    (indexes ≡ live_among numbers s) × (indexes ≢ []) × AllByRecursion (λ i. IsCovered high (s.published i)) indexes
MayGoOnline s indexes _ = ⊥

-- whether a command is answered from its index alone
abbrev pub is_covered_by_index : Option Command → Bool
is_covered_by_index (Some (Scan index spans ask)) = true
is_covered_by_index _ = false

-- a request is answered from the newest publication of its index, which covers its demand
abbrev pub MayAnswer : State → List ℕ → Opened → Type 0
MayAnswer s at (started i demand high) = IfLive i s (λ index. (at ≡ s.published i) × IsCovered demand at)
MayAnswer s at _ = ⊥

-- what was picked is fetched at the newest numbers
abbrev pub MayFetch : List ℕ → List ℕ → List ℕ → Opened → Type 0
MayFetch high at fetched (picked i v) = (at ≡ v) × (fetched ≡ high)
MayFetch high at fetched _ = ⊥

-- whether a command waits
abbrev pub waits : Option Command → Bool
waits (Some (Scan index spans ask)) = ask.wait
waits _ = false

-- a request isn't answered yet: the newest publication doesn't cover its demand, and it doesn't wait, or its demand wasn't
-- reached when it began
abbrev pub MayNotYet : State → Bool → List ℕ → Opened → Type 0
MayNotYet s wait have (started i demand high) =
    IfLive i s (λ index. (have ≡ s.published i) × (¬ IsCovered demand have) × ((wait ≡ false) ⊎ (¬ IsCovered demand high)))
MayNotYet s wait have _ = ⊥

-- the index of a request, or each index that is built, was dropped
abbrev pub IsDropped : State → Opened → Type 0
IsDropped s (started i demand high) = numbered i s.live ≡ None
IsDropped s (work numbers high) = live_among numbers s ≡ []
IsDropped s _ = ⊥

-- k is the client's next command, and this holds of what is open for it
abbrev pub OnOpen : State → ℕ → ℕ → (Opened → Type 0) → Type 0
OnOpen s c k Holds = (k ≡ (s.client c).next) × Holds (s.client c).opened

-- an event may follow those that left this state
abbrev pub MayFollow : (List ℕ → Read) → Script → State → Event → Type 0
MayFollow read script s (mutate c k what) = IsFirst read script s c (mutate c k what)
MayFollow read script s (define c k i deferred def) = IsFirst read script s c (define c k i deferred def)
MayFollow read script s (build c k indexes) = IsFirst read script s c (build c k indexes)
MayFollow read script s (removed c k i) = IsFirst read script s c (removed c k i)
MayFollow read script s (start c k i demand) = IsFirst read script s c (start c k i demand)
MayFollow read script s (publish i at) = IfLive i s (GoesOn (high_of script.vbuckets s.log) (s.published i) at)
MayFollow read script s (online c k indexes) = OnOpen s c k (MayGoOnline s indexes)
MayFollow read script s (answer c k at) = OnOpen s c k (MayAnswer s at) × (is_covered_by_index (command_at script c k) ≡ true)
MayFollow read script s (pick c k at) = OnOpen s c k (MayAnswer s at) × (is_covered_by_index (command_at script c k) ≡ false)
MayFollow read script s (fetch c k at fetched) = OnOpen s c k (MayFetch (high_of script.vbuckets s.log) at fetched)
MayFollow read script s (not_yet c k have) = OnOpen s c k (MayNotYet s (waits (command_at script c k)) have)
MayFollow read script s (refuse c k number why) =
    IsFirst read script s c (refuse c k number why) ⊎ ((number ≡ code.dropped) × (why ≡ Plain) × OnOpen s c k (IsDropped s))

-- each event may follow those before it
abbrev pub IsLegalFrom : (List ℕ → Read) → Script → State → List Event → Type 0
IsLegalFrom read script s [] = ⊤
IsLegalFrom read script s (e ∷ es) = MayFollow read script s e × IsLegalFrom read script (step script.vbuckets s e) es

-- The events are legal; `read` is what tells of each text what it is.
abbrev pub IsLegal : Script → List Event → Type 0
IsLegal script events = (read : List ℕ → Read) → AreRead read → IsLegalFrom read script (first_state script.vbuckets) events

-- In the state that a history leaves each client's commands are closed, and each online index is published at the newest numbers.
pub record IsFinished (script : Script) (s : State) : Type 0 where
  pub closed : (c : ℕ) → c < script.clients → (s.client c).opened ≡ nothing
  pub done : (c : ℕ) → c < script.clients → (s.client c).next ≡ length (commands_of script c)
  pub published : AllByRecursion (λ (index : Live). index.state ≡ Online → s.published index.number ≡ high_of script.vbuckets s.log) s.live
