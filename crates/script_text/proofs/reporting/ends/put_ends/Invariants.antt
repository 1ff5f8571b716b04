use Rattle.std.proofs.Common.{◌≡◌, ◌++◌, map, take}
use Rattle.script_text.specs.Lines.{joined}
use Rattle.script_text.specs.Reports.{end_text}
use Rattle.script_text.proofs.reporting.ends.put_ends.Given as goal

abbrev pub invariant-loop-at : goal.invariant-loop-at
invariant-loop-at l = l.out.items ≡ l.fn.out.items ++ joined (map end_text (take l.at l.ends))
