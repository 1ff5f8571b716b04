use Rattle.std.proofs.Common.{◌≡◌, ◌∷◌, slice_get, sym, ap, ◌∙◌, subst}
use Rattle.std.specs.Prelude.{⊤}
use Rattle.std.specs.List.{AllByRecursion}
use Rattle.std.specs.Vec.Iter.{into_iter_items}
use Rattle.key_eval.specs.declared.projected.Projected.{Projected}
use Rattle.gsi_sched.specs.Slots.{with_piece}
use Rattle.gsi_sched.specs.inner.SlotLists.{with_slot, OnSlot}
use Rattle.gsi_sched.proofs.SlotLists.{sent_next}
use Rattle.gsi_sched.proofs.SentPieces.{each_there_still}
use Rattle.gsi_sched.proofs.machine.slots.send_all.Goals as goal

pub loop-p-preserved : goal.loop-p-preserved
loop-p-preserved c =
    let p = c.in-Some.p in
    let rest = into_iter_items c.next.new.self in
    let slots = c.loop-p.slots.items in
    let items : into_iter_items c.loop-p.p-iterator ≡ p ∷ rest = c.in-Some.ensures.steps.0 in
    let all = subst (AllByRecursion (λ (q : Projected). OnSlot (λ slot. ⊤) (slice_get slots q.index))) items c.loop-p.invariant.1 in
    let now : c.send_at.new.slots.items ≡ with_slot (with_piece p) p.index slots = c.in_ok-send_at.ensures in (
      now ∙ (ap (with_slot (with_piece p) p.index) c.loop-p.invariant.0 ∙ sent_next c.loop-p.yielded p c.args.slots.now.items),
      subst (λ items. AllByRecursion (λ (q : Projected). OnSlot (λ slot. ⊤) (slice_get items q.index)) rest) (sym now) (each_there_still (with_piece p) p.index slots rest all.1),
    )
