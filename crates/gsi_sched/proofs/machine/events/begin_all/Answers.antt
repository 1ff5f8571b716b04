use Rattle.std.proofs.Common.{◌≡◌, ◌<◌, length, take, get_or, refl, sym, ap, ◌∙◌, arith}
use Rattle.std.proofs.lemmas.List.{take_all}
use Rattle.std.proofs.lemmas.List.Sums.{fold_more}
use Rattle.dcp_stream.specs.Pieces.{Marked}
use Rattle.stream_merge.specs.Joined.{Joined}
use Rattle.gsi_sched.specs.inner.SlotLists.{with_begun_slot, with_begun_slots}
use Rattle.gsi_sched.specs.inner.StreamSteps.{with_begun_stream, with_begun_streams}
use Rattle.gsi_sched.proofs.FollowedEvents.{each_at, begun_length, streams_maint}
use Rattle.gsi_sched.proofs.machine.events.begin_all.Goals as goal

pub loop-i-init : goal.loop-i-init
loop-i-init c = record { slots = refl; streams = refl }

pub begin-requires-clause-place : goal.begin-requires-clause-place
begin-requires-clause-place c =
    let slots = c.args.slots.now.items in
    let indexes = c.args.indexes.now in
    let before : get_or indexes c.loop-i.i-index 0 < length slots = each_at (λ i. i < length slots) indexes c.loop-i.i-index 0 c.requires.places c.loop-i-test.true in
    let same : length c.loop-i.slots.items ≡ length slots = ap length c.loop-i.invariant.slots ∙ begun_length c.args.hub.now (take c.loop-i.i-index indexes) slots in
    omega (arith, before, same)

pub begin-requires-clause-size : goal.begin-requires-clause-size
begin-requires-clause-size c =
    let n = c.args.hub.now.script.vbuckets in
    ap (λ (st : Joined). length st.maint.stream.at) c.loop-i.invariant.streams
    ∙ (ap (λ (x : Marked). length x.stream.at) (streams_maint n (take c.loop-i.i-index c.args.indexes.now) c.args.streams.now) ∙ c.requires.size)

pub loop-i-preserved : goal.loop-i-preserved
loop-i-preserved c =
    let hub = c.args.hub.now in
    let indexes = c.args.indexes.now in
    let i = get_or indexes c.loop-i.i-index 0 in
    record {
      slots =
          c.in_ok-begin.ensures.slots
          ∙ (ap (with_begun_slot hub i) c.loop-i.invariant.slots
          ∙ sym (fold_more (λ slots i. with_begun_slot hub i slots) c.args.slots.now.items indexes c.loop-i.i-index 0 c.loop-i-test.true));
      streams =
          c.in_ok-begin.ensures.streams
          ∙ (ap (with_begun_stream hub.script.vbuckets i) c.loop-i.invariant.streams
          ∙ sym (fold_more (λ streams i. with_begun_stream hub.script.vbuckets i streams) c.args.streams.now indexes c.loop-i.i-index 0 c.loop-i-test.true));
    }

pub returns-clause-slots : goal.returns-clause-slots
returns-clause-slots c =
    c.loop-i.invariant.slots
    ∙ ap (λ is. with_begun_slots c.args.hub.now is c.args.slots.now.items) (take_all c.loop-i.i-index c.args.indexes.now c.loop-i-test.false)

pub returns-clause-streams : goal.returns-clause-streams
returns-clause-streams c =
    c.loop-i.invariant.streams
    ∙ ap (λ is. with_begun_streams c.args.hub.now.script.vbuckets is c.args.streams.now) (take_all c.loop-i.i-index c.args.indexes.now c.loop-i-test.false)
