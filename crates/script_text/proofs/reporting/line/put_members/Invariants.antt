use Rattle.std.proofs.Common.{◌≡◌, ◌++◌, map, take}
use Rattle.script_text.specs.Lines.{joined}
use Rattle.script_text.specs.inner.ReportMembers.{written}
use Rattle.script_text.proofs.reporting.line.put_members.Given as goal

abbrev pub invariant-loop-at : goal.invariant-loop-at
invariant-loop-at l = l.out.items ≡ l.fn.out.items ++ joined (map written (take l.at l.members))
