use Rattle.std.proofs.Common.{refl, sym, ap, ◌∙◌, arith}
use Rattle.std.specs.Arc.{arc_value}
use Rattle.std.proofs.lemmas.Bool.{true≢false}
use Rattle.index_snapshot.specs.declared.snapshot.Snapshot.{Snapshot}
use Rattle.gsi_sched.specs.declared.machine.RunningMachine.{RunningMachine}
use Rattle.gsi_sched.proofs.FollowedParts.{slot_is_there}
use Rattle.gsi_sched.proofs.PublishedSlots.{stands_before, served_before, published_goes}
use Rattle.gsi_sched.proofs.machine.RunningMachine.publish.Goals as goal

pub snapshot_at-requires : goal.snapshot_at-requires
snapshot_at-requires c = record { there = slot_is_there c.requires.following.0 c.args.self.now c.requires.following.1 c.args.i c.requires.working }

pub publish-requires : goal.publish-requires
publish-requires c =
    let r : RunningMachine = c.args.self.now in
    let i = c.args.i in
    let x : Snapshot = arc_value c.in_ok-snapshot.snapshot in
    let room = c.in_ok-reserve.ensures.room in
    record {
      spare = omega (arith, room);
      stands = stands_before c.known.ensures r i c.requires.following c.requires.working x c.in_ok-snapshot.ensures.made c.reserve.new.self c.reserve.ensures.same;
      served = served_before c.known.ensures r i c.requires.following c.requires.working x c.in_ok-snapshot.ensures.made c.reserve.new.self c.reserve.ensures.same;
      vector = c.in_ok-at.ensures ∙ ap (λ (x : Snapshot). arc_value x.vector) c.deref.ensures;
    }

pub returns : goal.returns
returns c =
    let r : RunningMachine = c.args.self.now in
    let x : Snapshot = arc_value c.in_ok-snapshot.snapshot in
    let t : RunningMachine = record r { hub = c.publish.new.self; slots = c.snapshot_at.new.slots } in
    published_goes c.known.ensures r c.args.i c.requires.working x c.in_ok-snapshot.ensures.made c.reserve.new.self c.reserve.ensures.same
    t refl refl refl c.in_ok-snapshot.ensures.slots
    (arc_value c.in_ok-at.at) (c.in_ok-at.ensures ∙ ap (λ (x : Snapshot). arc_value x.vector) c.deref.ensures)
    c.publish.result c.publish.ensures
    (λ at. true≢false (sym (c.is_published.ensures.1 at) ∙ c.if-is_published.false))
