-- That what a call gives is the outcome that is defined, where memory doesn't run out.
use Rattle.std.specs.Prelude.{◌≡◌, Result, Ok, Err, ⊤}
use Rattle.scan_history.specs.declared.script.Script.{Script}
use Rattle.script_text.specs.declared.reader.script.script_fault.ScriptFault.{ScriptFault}
use Rattle.script_text.specs.declared.reader.script.script_fault.ScriptFault.TheVariants.{Line, TooLarge, Memory}
use Rattle.script_text.specs.Scripts.{Outcome, script, bad, too_large}

-- a script
abbrev pub ReadsAs : Outcome → Result Script ScriptFault → Type 0
ReadsAs outcome (Ok found) = outcome ≡ script found
ReadsAs outcome (Err (Line line kind)) = outcome ≡ bad line kind
ReadsAs outcome (Err (TooLarge what limit)) = outcome ≡ too_large what limit
ReadsAs outcome (Err Memory) = ⊤
