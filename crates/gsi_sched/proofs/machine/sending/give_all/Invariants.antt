use Rattle.std.proofs.Common.{◌≡◌, map, take}
use Rattle.std.specs.Prelude.{slice_get}
use Rattle.std.specs.List.{AllByRecursion}
use Rattle.gsi_hub.specs.Past.{state_of}
use Rattle.gsi_sched.specs.inner.SlotLists.{with_slot, OnSlot, all_given, IsPieceFor, IfNumbered, projected_as}
use Rattle.gsi_sched.proofs.machine.sending.give_all.Given as goal

abbrev pub invariant-loop-piece : goal.invariant-loop-piece
invariant-loop-piece l =
    IfNumbered (state_of l.hub) l.i (λ index. l.slots.items ≡ with_slot (all_given (map (projected_as l.i index.def) (take l.piece-index l.pieces))) l.i l.initial.slots.items)
    × OnSlot (λ slot. AllByRecursion (IsPieceFor slot) l.pieces) (slice_get l.slots.items l.i)
