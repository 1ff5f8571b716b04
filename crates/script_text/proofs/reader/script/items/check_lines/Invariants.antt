use Rattle.std.proofs.Common.{◌≡◌}
use Rattle.std.specs.Result.{result_err}
use Rattle.script_text.specs.Scripts.{items_from}
use Rattle.script_text.proofs.reader.script.items.check_lines.Given as goal

-- the first bad line of all is the first of those that are left
abbrev pub invariant-lines : goal.invariant-lines
invariant-lines l = result_err (items_from l.sizes l.fn.lines) ≡ result_err (items_from l.sizes l.line-iterator)
