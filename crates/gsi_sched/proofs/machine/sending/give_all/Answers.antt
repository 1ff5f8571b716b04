use Rattle.std.proofs.Common.{◌≡◌, List, length, map, refl, subst, take_all}
use Rattle.std.specs.Prelude.{IfSome}
use Rattle.std.proofs.lemmas.Option.{slice_get_read}
use Rattle.index_def.specs.LiveIndexes.{Live, numbered}
use Rattle.dcp_stream.specs.declared.piece.Piece.{Piece}
use Rattle.gsi_hub.specs.Past.{state_of}
use Rattle.gsi_sched.specs.inner.SlotLists.{with_slot, all_given, projected_as}
use Rattle.gsi_sched.proofs.SentPieces.{given_so_far, given_to_working}
use Rattle.gsi_sched.proofs.machine.sending.give_all.Goals as goal

pub loop-piece-init : goal.loop-piece-init
loop-piece-init c = (given_so_far c.args.i (numbered c.args.i (state_of c.args.hub.now).live) c.args.slots.now.items, c.requires.fit)

pub loop-piece-preserved : goal.loop-piece-preserved
loop-piece-preserved c =
    let at = c.loop-piece.piece-index in
    let pieces : List Piece = c.args.pieces.now in
    let piece = c.piece-item.result in
    let there = slice_get_read pieces (length pieces) at piece refl c.loop-piece-test.true c.piece-item.is in
    given_to_working (state_of c.args.hub.now).live c.args.i c.requires.working pieces at piece c.args.slots.now.items c.loop-piece.slots.items c.give.new.slots.items
    there c.loop-piece.invariant.0 c.loop-piece.invariant.1 c.in_ok-give.ensures

pub returns : goal.returns
returns c =
    let whole = take_all c.loop-piece.piece-index c.args.pieces.now c.loop-piece-test.false in
    subst (λ (ps : List Piece). IfSome (numbered c.args.i (state_of c.args.hub.now).live)
    (λ (index : Live). c.loop-piece.slots.items ≡ with_slot (all_given (map (projected_as c.args.i index.def) ps)) c.args.i c.args.slots.now.items)) whole c.loop-piece.invariant.0
