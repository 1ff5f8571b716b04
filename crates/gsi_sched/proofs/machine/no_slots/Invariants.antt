use Rattle.std.proofs.Common.{◌≡◌, None, replicate}
use Rattle.gsi_sched.proofs.machine.no_slots.Given as goal

abbrev pub invariant-loop : goal.invariant-loop
invariant-loop l = l.slots.items ≡ replicate l.counter None
