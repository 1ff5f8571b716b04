use Rattle.std.proofs.Common.{◌≡◌, ℕ, List, sym, ap, ◌∙◌}
use Rattle.std.specs.Arc.{arc_value}
use Rattle.index_snapshot.specs.declared.snapshot.Snapshot.{Snapshot}
use Rattle.gsi_hub.specs.Past.{state_of}
use Rattle.gsi_sched.specs.declared.machine.RunningMachine.{RunningMachine}
use Rattle.gsi_sched.specs.Slots.{Slot}
use Rattle.gsi_sched.proofs.PublishedSlots.{newest_vector, is_at_from, is_at_then}
use Rattle.gsi_sched.proofs.machine.RunningMachine.is_published.Goals as goal

pub returns : goal.returns
returns c =
    let r : RunningMachine = c.args.self.now in
    let i = c.args.i in
    let v : List ℕ = (state_of r.hub).published i in
    let slot : Slot = c.slot_at.result.now in
    let x : Snapshot = arc_value c.in-Some.newest.now in
    let published : c.deref-in-Some.result.now ≡ v =
    c.deref-in-Some.ensures ∙ (ap (λ (x : Snapshot). arc_value x.vector) c.deref.ensures ∙ newest_vector r i c.requires.working x c.in-Some.ensures) in (
      λ same. is_at_from r i c.requires.working c.requires.following slot c.slot_at.ensures v (sym c.vector.ensures ∙ (c.is_same.ensures.0 same ∙ published)),
      λ at. c.is_same.ensures.1 (c.vector.ensures ∙ (is_at_then r i c.requires.working c.requires.following slot c.slot_at.ensures v at ∙ sym published)),
    )
