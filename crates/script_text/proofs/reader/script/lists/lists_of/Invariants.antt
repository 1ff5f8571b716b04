use Rattle.std.proofs.Common.{◌≡◌}
use Rattle.script_text.specs.Scripts.{lists_of, schedule_of}
use Rattle.script_text.proofs.reader.script.lists.lists_of.Given as goal

abbrev pub invariant-items : goal.invariant-items
invariant-items l = (l.lists.items ≡ lists_of l.clients l.yielded) × (l.schedule ≡ schedule_of l.yielded)
