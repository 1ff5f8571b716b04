use Rattle.std.proofs.Common.{◌≡◌, []}
use Rattle.script_text.specs.Scripts.{lists_of}
use Rattle.script_text.proofs.reader.script.lists.empty_lists.Given as goal

abbrev pub invariant-lists : goal.invariant-lists
invariant-lists l = l.lists.items ≡ lists_of l.counter []
