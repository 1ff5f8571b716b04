use Rattle.std.proofs.Common.{◌≡◌, length, take}
use Rattle.gsi_sched.specs.inner.StreamSteps.{merged_all}
use Rattle.gsi_sched.proofs.machine.events.merge_all.Given as goal

abbrev pub invariant-loop-i : goal.invariant-loop-i
invariant-loop-i l = record {
  streams : l.streams ≡ merged_all l.slots.items (take l.i-index l.indexes) l.initial.streams;
  size : length l.streams.maint.stream.at ≡ length l.initial.streams.maint.stream.at;
}
