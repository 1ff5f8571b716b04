use Rattle.std.proofs.Common.{◌≡◌, ◌++◌, map, take}
use Rattle.std.specs.Prelude.{decimal}
use Rattle.script_text.specs.Lines.{joined}
use Rattle.script_text.proofs.reporting.text.put_items.Given as goal

abbrev pub invariant-loop-at : goal.invariant-loop-at
invariant-loop-at l = l.out.items ≡ l.fn.out.items ++ joined (map decimal (take l.at l.numbers))
