use Rattle.std.proofs.Common.{◌≡◌, map, take}
use Rattle.std.specs.Arc.{arc_value}
use Rattle.std.specs.List.{All}
use Rattle.index_def.specs.Forms.{IsFormed}
use Rattle.gsi_hub.specs.Past.{state_of}
use Rattle.gsi_sched.specs.inner.SlotLists.{online_in, numbered_def_of, numbered_def_in}
use Rattle.gsi_sched.proofs.machine.sending.online_defs.Given as goal

abbrev pub invariant-loop-at : goal.invariant-loop-at
invariant-loop-at l =
    (map numbered_def_of l.defs.items ≡ map numbered_def_in (online_in (take l.at (state_of l.hub).live)))
    × All (λ d. IsFormed (arc_value d.def)) l.defs.items
