use Rattle.std.proofs.Common.{List, Option, refl, sym, ap, ◌∙◌, subst, arith}
use Rattle.std.specs.Option.{option_map_or}
use Rattle.std.proofs.lemmas.Result.{on_ok_weaker}
use Rattle.dcp_stream.specs.declared.piece.Piece.{Piece}
use Rattle.gsi_hub.specs.Past.{state_of}
use Rattle.gsi_sched.specs.ScheduleLines.{project}
use Rattle.gsi_sched.specs.Slots.{Slot}
use Rattle.gsi_sched.specs.inner.SlotLists.{sent_online}
use Rattle.gsi_sched.specs.inner.Following.{Goes}
use Rattle.gsi_sched.specs.declared.machine.RunningMachine.{RunningMachine}
use Rattle.gsi_sched.proofs.KeptByProjections.{batch_is, some_batch, slots_in_hub, live_numbered, maint_reached, project_goes}
use Rattle.gsi_sched.proofs.machine.RunningMachine.project.Goals as goal

pub next_maint-requires : goal.next_maint-requires
next_maint-requires c =
    let r : RunningMachine = c.args.self.now in
    record {
      vbucket = omega (arith, c.requires.vbucket, c.store.ensures.vbuckets);
      some = some_batch r c.requires.following c.deref.result.now c.deref.ensures;
      reached = maint_reached c.below.ensures c.stood.ensures r c.store.result.now c.store.ensures.vbuckets c.store.ensures.log c.requires.following;
    }

pub send_online-requires : goal.send_online-requires
send_online-requires c =
    let r : RunningMachine = c.args.self.now in
    record { slots = slots_in_hub r c.requires.following; numbered = live_numbered r c.requires.following c.below.ensures }

pub returns-in-Some : goal.returns-in-Some
returns-in-Some c =
    let r : RunningMachine = c.args.self.now in
    let n = r.hub.script.vbuckets in
    let script = c.deref.result.now in
    let t : RunningMachine = record r { streams = c.next_maint.new.streams; slots = c.send_online.new.slots } in
    let given : Option Piece → List (Option Slot) = λ o. option_map_or (λ p. sent_online (state_of r.hub).live p r.slots.items) o r.slots.items in
    on_ok_weaker c.send_online.result
    (λ sent.
    subst (λ most. Goes (project n most c.args.vb) r t) (batch_is r c.requires.following script c.deref.ensures)
    (project_goes c.below.ensures c.stood.ensures r c.store.result.now c.store.ensures.vbuckets c.store.ensures.log t (record { hub = refl; script = refl; answers = refl })
    script.batch c.args.vb c.requires.vbucket (some_batch r c.requires.following script c.deref.ensures) c.in_ok-piece.field-0 c.in_ok-piece.ensures.piece c.in_ok-piece.ensures.stands c.in_ok-piece.ensures.moved
    (sent ∙ ap given (sym c.in-Some.is))))
    c.send_online.ensures

pub returns-in-None : goal.returns-in-None
returns-in-None c =
    let r : RunningMachine = c.args.self.now in
    let n = r.hub.script.vbuckets in
    let script = c.deref.result.now in
    let t : RunningMachine = record r { streams = c.next_maint.new.streams } in
    let given : Option Piece → List (Option Slot) = λ o. option_map_or (λ p. sent_online (state_of r.hub).live p r.slots.items) o r.slots.items in
    subst (λ most. Goes (project n most c.args.vb) r t) (batch_is r c.requires.following script c.deref.ensures)
    (project_goes c.below.ensures c.stood.ensures r c.store.result.now c.store.ensures.vbuckets c.store.ensures.log t (record { hub = refl; script = refl; answers = refl })
    script.batch c.args.vb c.requires.vbucket (some_batch r c.requires.following script c.deref.ensures) c.in_ok-piece.field-0 c.in_ok-piece.ensures.piece c.in_ok-piece.ensures.stands c.in_ok-piece.ensures.moved
    (ap given (sym c.in-None.is)))
