use Rattle.std.proofs.Common.{length, refl, sym, ap, ◌∙◌, subst}
use Rattle.std.specs.List.{AllByRecursion}
use Rattle.std.proofs.lemmas.Result.{on_ok_weaker}
use Rattle.dcp_stream.specs.Pieces.{PieceStands}
use Rattle.gsi_hub.specs.Past.{state_of}
use Rattle.gsi_sched.specs.declared.machine.RunningMachine.{RunningMachine}
use Rattle.gsi_sched.proofs.FollowedParts.{slot_is_there, slots_are_there}
use Rattle.gsi_sched.proofs.FollowedCatchUps.{brought_follows}
use Rattle.gsi_sched.proofs.PublishedSlots.{vector_size, is_at_from, pieces_fit_there}
use Rattle.gsi_sched.proofs.machine.RunningMachine.bring_up.Goals as goal

pub slot_at-requires : goal.slot_at-requires
slot_at-requires c = record { there = slot_is_there c.requires.following.0 c.args.self.now c.requires.following.1 c.args.i c.requires.working }

pub take_pieces-requires : goal.take_pieces-requires
take_pieces-requires c =
    ap length c.vector-after.ensures ∙ vector_size c.args.self.now c.args.i c.requires.working c.requires.following c.slot_at.result.now c.slot_at.ensures

pub give_all-requires : goal.give_all-requires
give_all-requires c =
    let r : RunningMachine = c.args.self.now in
    record {
      slots = slots_are_there c.requires.following.0 r c.requires.following.1;
      working = c.requires.working;
      fit =
          pieces_fit_there r c.args.i c.requires.working c.requires.following c.slot_at.result.now c.slot_at.ensures c.as_slice.result.now
          (subst (AllByRecursion (PieceStands r.hub.script.vbuckets (state_of r.hub).log)) (sym c.as_slice.ensures) c.in_ok-pieces.ensures.stands);
    }

pub returns : goal.returns
returns c =
    let r : RunningMachine = c.args.self.now in
    let t : RunningMachine = record r { slots = c.give_all.new.slots } in
    let i = c.args.i in
    on_ok_weaker c.give_all.result
    (λ given. record {
      script = refl;
      follows = λ m f.
          brought_follows c.known.ensures r m f i c.requires.working t (record { script = refl; hub_script = refl; hub_events = refl; answers = refl }) refl
          c.vector-after.result.now c.as_slice.result.now
          (is_at_from r i c.requires.working c.requires.following c.slot_at.result.now c.slot_at.ensures c.vector-after.result.now (sym c.vector-after.ensures))
          (c.as_slice.ensures ∙ c.in_ok-pieces.ensures.pieces)
          (subst (AllByRecursion (PieceStands r.hub.script.vbuckets (state_of r.hub).log)) (sym c.as_slice.ensures) c.in_ok-pieces.ensures.stands)
          given;
    })
    c.give_all.ensures
