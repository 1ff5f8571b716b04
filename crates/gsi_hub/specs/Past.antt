-- What contracts see of a hub, and what a call does to it.
use Rattle.std.specs.Prelude.{◌≡◌, ℕ, ◌+◌, ◌≤◌, List, [], ◌∷◌, ◌++◌, Option, Some}
use Rattle.vb_store.specs.Mutations.{high_of}
use Rattle.scan_history.specs.declared.command.Command.{Command}
use Rattle.scan_history.specs.declared.script.Script.{Script}
use Rattle.scan_history.specs.Events.{Event}
use Rattle.scan_history.specs.First.{command_at}
use Rattle.scan_history.specs.Fold.{State, Client, state_after}
use Rattle.scan_history.specs.Legal.{MayFollow}
use Rattle.scan_history.specs.NextEvent.{next_event}
use Rattle.scan_history.specs.Readings.{Read, AreRead}

-- the script, the events so far, and for how many more there is room
pub record Past : Type 0 where
  pub script : Script
  pub events : List Event
  pub spare : ℕ

-- the state that its events leave
abbrev pub state_of : Past → State
state_of p = state_after p.script.vbuckets p.events

-- a client's part of it, and the client's next command
abbrev pub part_in : Past → ℕ → Client
part_in p c = (state_of p).client c

abbrev pub next_command : Past → ℕ → Option Command
next_command p c = command_at p.script c (part_in p c).next

-- the newest number of each vBucket
abbrev pub high_in : Past → List ℕ
high_in p = high_of p.script.vbuckets (state_of p).log

-- an event may come next
abbrev pub MayCome : Past → Event → Type 0
MayCome p e = (read : List ℕ → Read) → AreRead read → MayFollow read p.script (state_of p) e

-- it is the client's next event
abbrev pub IsNextEvent : Past → ℕ → Event → Type 0
IsNextEvent p c e = (read : List ℕ → Read) → AreRead read → next_event read p.script (state_of p) c ≡ Some e

-- nothing happened, but that there may be more room
pub record IsAsBefore (old new : Past) : Type 0 where
  pub script : new.script ≡ old.script
  pub events : new.events ≡ old.events
  pub spare : old.spare ≤ new.spare

-- an event stands behind the others, and there is room for at most one less
pub record Adds (e : Event) (old new : Past) : Type 0 where
  pub script : new.script ≡ old.script
  pub events : new.events ≡ old.events ++ e ∷ []
  pub spare : old.spare ≤ new.spare + 1

-- a client's next event happened, and it is such a one
pub record Acted (c : ℕ) (old new : Past) (IsSuch : Event → Type 0) : Type 0 where
  pub event : Event
  pub next : IsNextEvent old c event
  pub such : IsSuch event
  pub adds : Adds event old new
