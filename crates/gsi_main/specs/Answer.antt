-- The answer to an input: the report of a replay, or what is wrong.
use Rattle.std.specs.Prelude.{◌≡◌, ℕ, List, ⊤, if◌then◌else◌, nat_le, length, Result, Ok, Err, Vec}
use Rattle.std.specs.declared.alloc.Global.{Global}
use Rattle.n1ql_value.specs.Limits.{max_input_bytes}
use Rattle.scan_history.specs.declared.what.What.TheVariants.{Input}
use Rattle.scan_history.specs.declared.script.Script.{Script}
use Rattle.scan_history.specs.Events.{Event}
use Rattle.scan_history.specs.Fold.{state_after}
use Rattle.scan_history.specs.Legal.{IsLegal, IsFinished}
use Rattle.scan_history.specs.Readings.{Read, AreRead}
use Rattle.scan_history.specs.Served.{AreServed}
use Rattle.script_text.specs.declared.reader.script.script_fault.ScriptFault.{ScriptFault}
use Rattle.script_text.specs.declared.reader.script.script_fault.ScriptFault.TheVariants.{Line, TooLarge, Memory}
use Rattle.script_text.specs.Scripts.{Outcome, script, bad, too_large, script_of}
use Rattle.script_text.specs.Reports.{report_of}
use Rattle.gsi_sched.specs.Replay.{history_of}

-- what an input is: a script; or its first bad line, and what is wrong with it; or what passed its limit
abbrev pub outcome_for : List ℕ → Outcome
outcome_for input = if nat_le (length input) max_input_bytes then script_of input else too_large Input max_input_bytes

abbrev pub IsScript : Outcome → Type 0
IsScript outcome = (read : Script) × (outcome ≡ script read)

-- A history of a script, whatever it came from: it is legal and finished, so that each client's commands stand in it once and in order, and each of its
-- answers covers what was asked for and all that its client has seen.
pub record IsHistoryFor (read : Script) (history : List Event) : Type 0 where
  pub legal : IsLegal read history
  pub finished : IsFinished read (state_after read.vbuckets history)
  pub served : AreServed read history

-- the history that the schedule and the commands of a script give; what each text is, is told by one function
abbrev pub IsReplayOf : Script → List Event → Type 0
IsReplayOf read history = (texts : List ℕ → Read) → AreRead texts → history ≡ history_of texts read

-- the text is the report of a script's replay
pub record IsReplayReport (read : Script) (text : List ℕ) : Type 0 where
  pub history : List Event
  pub replayed : IsReplayOf read history
  pub good : IsHistoryFor read history
  pub told : text ≡ report_of read history

-- the input is a script, and the text is the report of its replay
pub record IsReportOf (input text : List ℕ) : Type 0 where
  pub read : Script
  pub is_read : script_of input ≡ script read
  pub report : IsReplayReport read text

-- the function gives what the input calls for, or memory ran out; whoever reads the input sees that it is no longer than the limit
abbrev pub Gives : Outcome → Result (Vec ℕ Global) ScriptFault → Type 0
Gives outcome (Ok text) = IsScript outcome
Gives outcome (Err (Line line kind)) = outcome ≡ bad line kind
Gives outcome (Err (TooLarge what limit)) = (outcome ≡ too_large what limit) × ¬ (what ≡ Input)
Gives outcome (Err Memory) = ⊤
