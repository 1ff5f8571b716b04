use Rattle.std.proofs.Common.{◌≡◌}
use Rattle.script_text.specs.Scripts.{ahead, items_from}
use Rattle.script_text.proofs.reader.script.items.items_from.Given as goal

-- what the lines so far say, and then what is left says
abbrev pub invariant-lines : goal.invariant-lines
invariant-lines l = items_from l.sizes l.fn.lines ≡ ahead l.items (items_from l.sizes l.line-iterator)
