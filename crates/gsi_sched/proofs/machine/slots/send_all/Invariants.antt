use Rattle.std.proofs.Common.{◌≡◌}
use Rattle.std.specs.Prelude.{⊤, slice_get}
use Rattle.std.specs.List.{AllByRecursion}
use Rattle.std.specs.Vec.Iter.{into_iter_items}
use Rattle.gsi_sched.specs.inner.SlotLists.{OnSlot, with_sent}
use Rattle.gsi_sched.proofs.machine.slots.send_all.Given as goal

abbrev pub invariant-loop-p : goal.invariant-loop-p
invariant-loop-p l =
    (l.slots.items ≡ with_sent l.yielded l.initial.slots.items)
    × AllByRecursion (λ p. OnSlot (λ slot. ⊤) (slice_get l.slots.items p.index)) (into_iter_items l.p-iterator)
