use Rattle.std.proofs.Common.{◌≡◌, take}
use Rattle.gsi_sched.specs.inner.SlotLists.{with_begun_slots}
use Rattle.gsi_sched.specs.inner.StreamSteps.{with_begun_streams}
use Rattle.gsi_sched.proofs.machine.events.begin_all.Given as goal

abbrev pub invariant-loop-i : goal.invariant-loop-i
invariant-loop-i l = record {
  slots : l.slots.items ≡ with_begun_slots l.hub (take l.i-index l.indexes) l.initial.slots.items;
  streams : l.streams ≡ with_begun_streams l.hub.script.vbuckets (take l.i-index l.indexes) l.initial.streams;
}
