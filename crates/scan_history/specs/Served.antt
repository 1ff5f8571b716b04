-- What an answer covers, and where there is none yet.
use Rattle.std.specs.Prelude.{◌≡◌, ℕ, List, ◌∷◌, ◌++◌, Some, ⊤}
use Rattle.n1ql_value.specs.declared.range.Range.{Range}
use Rattle.seq_vector.specs.Vectors.{IsCovered}
use Rattle.scan_coord.specs.Demands.{base_of, wanted_of}
use Rattle.scan_history.specs.declared.ask.Ask.{Ask}
use Rattle.scan_history.specs.declared.command.Command.TheVariants.{Scan}
use Rattle.scan_history.specs.declared.script.Script.{Script}
use Rattle.scan_history.specs.Events.{Event, answer, not_yet}
use Rattle.scan_history.specs.First.{command_at, session_of}
use Rattle.scan_history.specs.Fold.{started, State, state_after}

-- A client's command is a scan that began on an index, at these newest numbers.
pub record IsScanSince (script : Script) (s : State) (c k i : ℕ) (ask : Ask) (since : List ℕ) : Type 0 where
  pub index : List ℕ
  pub spans : List (List Range)
  pub command : command_at script c k ≡ Some (Scan index spans ask)
  pub opened : (s.client c).opened ≡ started i (wanted_of ask.demand (session_of (s.client c)) since) since

-- A scan is answered from the newest publication of its index, which covers what the scan asks for and all that its client has seen.
pub record IsCoveredAnswer (script : Script) (s : State) (c k : ℕ) (at : List ℕ) : Type 0 where
  pub i : ℕ
  pub ask : Ask
  pub since : List ℕ
  pub scan : IsScanSince script s c k i ask since
  pub newest : at ≡ s.published i
  pub asked : IsCovered (base_of ask.demand (session_of (s.client c)) since) at
  pub seen : IsCovered (s.client c).seen at

-- A scan isn't answered yet where the newest publication of its index doesn't cover both.
pub record IsShortOfDemand (script : Script) (s : State) (c k : ℕ) (have : List ℕ) : Type 0 where
  pub i : ℕ
  pub ask : Ask
  pub since : List ℕ
  pub scan : IsScanSince script s c k i ask since
  pub newest : have ≡ s.published i
  pub short : ¬ IsCovered (wanted_of ask.demand (session_of (s.client c)) since) have

abbrev pub IsFairTo : Script → State → Event → Type 0
IsFairTo script s (answer c k at) = IsCoveredAnswer script s c k at
IsFairTo script s (not_yet c k have) = IsShortOfDemand script s c k have
IsFairTo script s _ = ⊤

-- each request of a history
abbrev pub AreServed : Script → List Event → Type 0
AreServed script events = (before after : List Event) (e : Event) → events ≡ before ++ e ∷ after → IsFairTo script (state_after script.vbuckets before) e
