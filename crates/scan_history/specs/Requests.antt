-- What is open for a client, against its commands.
use Rattle.std.specs.Prelude.{◌≡◌, ◌≢◌, ℕ, ◌<◌, ◌≤◌, List, Some}
use Rattle.n1ql_value.specs.declared.range.Range.{Range}
use Rattle.scan_coord.specs.Demands.{wanted_of}
use Rattle.scan_history.specs.declared.ask.Ask.{Ask}
use Rattle.scan_history.specs.declared.command.Command.TheVariants.{Scan}
use Rattle.scan_history.specs.declared.script.Script.{Script}
use Rattle.scan_history.specs.Consistent.{IsReached}
use Rattle.scan_history.specs.First.{command_at, session_of}
use Rattle.scan_history.specs.Fold.{nothing, Client}

-- No more commands are closed than the client has, and while something is open one more is there.
pub record IsWithinCommands (commands : ℕ) (part : Client) : Type 0 where
  pub closed : part.next ≤ commands
  pub opened : part.opened ≢ nothing → part.next < commands

-- A request is the client's next command. Its demand is what it wants by what the client had seen and written when it began, none of which was
-- above the newest numbers of then.
pub record IsAsked (script : Script) (c : ℕ) (part : Client) (demand since : List ℕ) : Type 0 where
  pub index : List ℕ
  pub spans : List (List Range)
  pub ask : Ask
  pub command : command_at script c part.next ≡ Some (Scan index spans ask)
  pub wants : demand ≡ wanted_of ask.demand (session_of part) since
  pub seen : IsReached since part.seen
  pub wrote : IsReached since part.wrote
