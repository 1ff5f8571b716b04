use Rattle.std.proofs.Common.{◌≡◌, ℕ, List, Option, refl, sym, ap, ◌∙◌, subst, arith}
use Rattle.std.specs.Option.{option_map_or}
use Rattle.std.proofs.lemmas.Option.{IfSome_then}
use Rattle.std.proofs.lemmas.Result.{on_ok_weaker}
use Rattle.index_def.specs.LiveIndexes.{Live, numbered}
use Rattle.index_def.specs.declared.definition.IndexDef.{IndexDef}
use Rattle.dcp_stream.specs.declared.piece.Piece.{Piece}
use Rattle.gsi_hub.specs.Past.{state_of}
use Rattle.gsi_sched.specs.ScheduleLines.{project_to}
use Rattle.gsi_sched.specs.Slots.{Slot, with_piece}
use Rattle.gsi_sched.specs.inner.SlotLists.{with_slot, projected_as}
use Rattle.gsi_sched.specs.inner.Following.{Goes}
use Rattle.gsi_sched.specs.declared.machine.RunningMachine.{RunningMachine}
use Rattle.gsi_sched.proofs.KeptPlaces.{building_works}
use Rattle.gsi_sched.proofs.KeptByProjections.{if_some, batch_is, some_batch, slots_in_hub, initial_reached, project_to_goes}
use Rattle.gsi_sched.proofs.machine.RunningMachine.project_to.Goals as goal

pub next_initial-requires : goal.next_initial-requires
next_initial-requires c =
    let r : RunningMachine = c.args.self.now in
    record {
      vbucket = omega (arith, c.requires.vbucket, c.store.ensures.vbuckets);
      some = some_batch r c.requires.following c.deref.result.now c.deref.ensures;
      reached = initial_reached c.below.ensures c.stood.ensures r c.store.result.now c.store.ensures.vbuckets c.store.ensures.log c.args.i c.requires.following c.requires.building;
    }

pub send_to-requires : goal.send_to-requires
send_to-requires c =
    let r : RunningMachine = c.args.self.now in
    record { slots = slots_in_hub r c.requires.following; working = building_works (state_of r.hub) c.args.i c.requires.building }

-- the slots, once a piece was sent to an index of this definition, where there was one
abbrev given_to : RunningMachine → ℕ → IndexDef → Option Piece → List (Option Slot)
given_to r i def o = option_map_or (λ p. with_slot (with_piece (projected_as i def p)) i r.slots.items) o r.slots.items

pub returns-in-Some : goal.returns-in-Some
returns-in-Some c =
    let r : RunningMachine = c.args.self.now in
    let n = r.hub.script.vbuckets in
    let i = c.args.i in
    let script = c.deref.result.now in
    let t : RunningMachine = record r { streams = c.next_initial.new.streams; slots = c.send_to.new.slots } in
    on_ok_weaker c.send_to.result
    (λ sent.
    subst (λ most. Goes (project_to n most c.args.vb i) r t) (batch_is r c.requires.following script c.deref.ensures)
    (project_to_goes c.below.ensures c.stood.ensures r c.store.result.now c.store.ensures.vbuckets c.store.ensures.log t (record { hub = refl; script = refl; answers = refl })
    script.batch c.args.vb i c.requires.vbucket (some_batch r c.requires.following script c.deref.ensures) c.requires.building c.in_ok-piece.field-0 c.in_ok-piece.ensures.piece c.in_ok-piece.ensures.stands
    c.in_ok-piece.ensures.moved (IfSome_then (numbered i (state_of r.hub).live) sent (λ (index : Live) is. is ∙ ap (given_to r i index.def) (sym c.in-Some.is)))))
    c.send_to.ensures

pub returns-in-None : goal.returns-in-None
returns-in-None c =
    let r : RunningMachine = c.args.self.now in
    let n = r.hub.script.vbuckets in
    let i = c.args.i in
    let script = c.deref.result.now in
    let t : RunningMachine = record r { streams = c.next_initial.new.streams } in
    subst (λ most. Goes (project_to n most c.args.vb i) r t) (batch_is r c.requires.following script c.deref.ensures)
    (project_to_goes c.below.ensures c.stood.ensures r c.store.result.now c.store.ensures.vbuckets c.store.ensures.log t (record { hub = refl; script = refl; answers = refl })
    script.batch c.args.vb i c.requires.vbucket (some_batch r c.requires.following script c.deref.ensures) c.requires.building c.in_ok-piece.field-0 c.in_ok-piece.ensures.piece c.in_ok-piece.ensures.stands
    c.in_ok-piece.ensures.moved (if_some (λ (index : Live). t.slots.items ≡ given_to r i index.def c.in_ok-piece.field-0) (λ index. ap (given_to r i index.def) (sym c.in-None.is)) (numbered i (state_of r.hub).live)))
