use Rattle.std.proofs.Common.{◌≡◌, List, map, slice_get, sym, ap, ◌∙◌, subst}
use Rattle.std.specs.Prelude.{⊤}
use Rattle.std.specs.List.{AllByRecursion}
use Rattle.std.proofs.lemmas.Result.{on_ok_weaker}
use Rattle.index_def.specs.LiveIndexes.{Live}
use Rattle.key_eval.specs.declared.projected.Projected.{Projected}
use Rattle.projector.specs.declared.numbered_def.NumberedDef.{NumberedDef}
use Rattle.projector.specs.Projections.{projected_of}
use Rattle.gsi_hub.specs.Past.{state_of}
use Rattle.gsi_sched.specs.inner.SlotLists.{OnSlot, with_sent, projected_as, online_in}
use Rattle.gsi_sched.proofs.SentPieces.{projected_same, each_sent_there}
use Rattle.gsi_sched.proofs.machine.sending.send_online.Goals as goal

pub send_all-requires : goal.send_all-requires
send_all-requires c =
    let s = state_of c.args.hub.now in
    let p = c.args.piece.now in
    let slots = c.args.slots.now.items in
    let are : c.in_ok-pieces.pieces ≡ map (λ (index : Live). projected_as index.number index.def p) (online_in s.live) =
    c.in_ok-pieces.ensures.projected ∙ (ap (map (λ (d : NumberedDef). projected_of d p)) c.as_slice.ensures.value ∙ projected_same p c.in_ok-defs.defs.items (online_in s.live) c.in_ok-defs.ensures.defs) in
    record { there = subst (AllByRecursion (λ (q : Projected). OnSlot (λ slot. ⊤) (slice_get slots q.index))) (sym are) (each_sent_there s p slots c.requires.slots c.requires.numbered) }

pub returns : goal.returns
returns c =
    let s = state_of c.args.hub.now in
    let p = c.args.piece.now in
    let are : c.in_ok-pieces.pieces ≡ map (λ (index : Live). projected_as index.number index.def p) (online_in s.live) =
    c.in_ok-pieces.ensures.projected ∙ (ap (map (λ (d : NumberedDef). projected_of d p)) c.as_slice.ensures.value ∙ projected_same p c.in_ok-defs.defs.items (online_in s.live) c.in_ok-defs.ensures.defs) in
    on_ok_weaker c.send_all.result (λ sent. sent ∙ ap (λ (ps : List Projected). with_sent ps c.args.slots.now.items) are) c.send_all.ensures
