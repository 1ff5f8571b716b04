use Rattle.std.proofs.Common.{◌≡◌, ℕ, List, length, get_or, slice_get, Option, refl, sym, ap, ◌∙◌}
use Rattle.std.specs.Option.{option_map_or}
use Rattle.std.proofs.lemmas.List.{take_all}
use Rattle.std.proofs.lemmas.List.Sums.{fold_more}
use Rattle.stream_merge.specs.Merging.{merged}
use Rattle.gsi_sched.specs.Slots.{Slot}
use Rattle.gsi_sched.specs.inner.SlotLists.{IsSizedSlot}
use Rattle.gsi_sched.specs.inner.StreamSteps.{merged_at, merged_all}
use Rattle.gsi_sched.proofs.FollowedEvents.{each_at}
use Rattle.gsi_sched.proofs.FollowedParts.{by_slot}
use Rattle.gsi_sched.proofs.machine.events.merge_all.Goals as goal

pub loop-i-init : goal.loop-i-init
loop-i-init c = record { streams = refl; size = refl }

pub merge-requires : goal.merge-requires
merge-requires c =
    let slots = c.args.slots.now.items in
    let indexes = c.args.indexes.now in
    let size = length c.args.streams.now.maint.stream.at in
    let sized = by_slot (λ slot. length slot.worker.taken.at ≡ size) (slice_get slots (get_or indexes c.loop-i.i-index 0)) c.slot_at.result.now c.slot_at.ensures
    (each_at (IsSizedSlot size slots) indexes c.loop-i.i-index 0 c.requires.slots c.loop-i-test.true) in
    c.loop-i.invariant.size ∙ sym (ap length c.vector.ensures ∙ sized)

pub loop-i-preserved : goal.loop-i-preserved
loop-i-preserved c =
    let slots = c.args.slots.now.items in
    let indexes = c.args.indexes.now in
    let i = get_or indexes c.loop-i.i-index 0 in
    record {
      streams =
          c.merge.ensures.merged
          ∙ (ap (λ (v : List ℕ). merged i v c.loop-i.streams) c.vector.ensures
          ∙ (sym (ap (λ o. option_map_or (λ (found : Option Slot). option_map_or (λ (slot : Slot). merged i slot.worker.taken.at c.loop-i.streams) found c.loop-i.streams) o c.loop-i.streams) c.slot_at.ensures)
          ∙ (ap (merged_at slots i) c.loop-i.invariant.streams
          ∙ sym (fold_more (λ streams i. merged_at slots i streams) c.args.streams.now indexes c.loop-i.i-index 0 c.loop-i-test.true))));
      size = c.merge.ensures.size ∙ c.loop-i.invariant.size;
    }

pub returns : goal.returns
returns c =
    c.loop-i.invariant.streams
    ∙ ap (λ is. merged_all c.args.slots.now.items is c.args.streams.now) (take_all c.loop-i.i-index c.args.indexes.now c.loop-i-test.false)
