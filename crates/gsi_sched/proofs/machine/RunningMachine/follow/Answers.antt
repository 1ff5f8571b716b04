use Rattle.std.proofs.Common.{◌≡◌, ◌-◌, ◌<◌, [], ◌∷◌, length, slice_get, Some, None, refl, sym, ap, ◌∙◌, subst}
use Rattle.std.specs.Prelude.{slice_set}
use Rattle.std.specs.Arc.{arc_value}
use Rattle.std.specs.List.{AllByRecursion}
use Rattle.stream_merge.specs.Merging.{without_initial}
use Rattle.scan_history.specs.declared.event.Event.{Event as Held}
use Rattle.scan_history.specs.declared.event.Event.TheVariants as held
use Rattle.scan_history.specs.Events.{Event, define, build, online, removed}
use Rattle.scan_history.specs.Happened.{event_of}
use Rattle.gsi_hub.specs.Past.{state_of}
use Rattle.gsi_sched.specs.inner.SlotLists.{IsLiveNumber, IsSizedSlot, with_begun_slot, with_begun_slots}
use Rattle.gsi_sched.specs.inner.StreamSteps.{with_begun_stream, with_begun_streams, merged_all}
use Rattle.gsi_sched.specs.inner.Following.{HasHappened}
use Rattle.gsi_sched.specs.declared.machine.RunningMachine.{RunningMachine}
use Rattle.gsi_sched.proofs.FollowedParts.{Beside, on_ok_both}
use Rattle.gsi_sched.proofs.FollowedEvents.{follows_then}
use Rattle.gsi_sched.proofs.FollowedKinds.{newest_at, has_happened, ahead_by, LeadsToNothing, leads_to_nothing, created_is_live, created_place, created_leads, built_are_live, built_places, built_leads, online_sized, online_leads, removed_place, removed_leads}
use Rattle.gsi_sched.proofs.machine.RunningMachine.follow.Goals as goal
use Rattle.gsi_sched.proofs.machine.RunningMachine.follow.Goals.{In-Define, In-Build, In-Online, In-Removed, In_default-event}

abbrev defined : In-Define → Event
defined c = define c.in-Define.c c.in-Define.k c.in-Define.i c.in-Define.deferred (arc_value c.in-Define.def)

is_defined : (c : In-Define) → Some (defined c) ≡ slice_get c.args.self.now.hub.events (length c.args.self.now.hub.events - 1)
is_defined c =
    newest_at c.args.self.now.hub.events c.events.result.now (defined c) c.in-Some.newest.now (sym (ap event_of c.in-Define.is) ∙ c.event.ensures) c.in-Some.ensures.value c.events.ensures

abbrev built : In-Build → Event
built c = build c.in-Build.c c.in-Build.k c.in-Build.indexes

is_built : (c : In-Build) → Some (built c) ≡ slice_get c.args.self.now.hub.events (length c.args.self.now.hub.events - 1)
is_built c =
    newest_at c.args.self.now.hub.events c.events.result.now (built c) c.in-Some.newest.now (sym (ap event_of c.in-Build.is) ∙ c.event.ensures) c.in-Some.ensures.value c.events.ensures

abbrev went_online : In-Online → Event
went_online c = online c.in-Online.c c.in-Online.k c.in-Online.indexes

is_online : (c : In-Online) → Some (went_online c) ≡ slice_get c.args.self.now.hub.events (length c.args.self.now.hub.events - 1)
is_online c =
    newest_at c.args.self.now.hub.events c.events.result.now (went_online c) c.in-Some.newest.now (sym (ap event_of c.in-Online.is) ∙ c.event.ensures) c.in-Some.ensures.value c.events.ensures

abbrev dropped : In-Removed → Event
dropped c = removed c.in-Removed.c c.in-Removed.k c.in-Removed.i

is_dropped : (c : In-Removed) → Some (dropped c) ≡ slice_get c.args.self.now.hub.events (length c.args.self.now.hub.events - 1)
is_dropped c =
    newest_at c.args.self.now.hub.events c.events.result.now (dropped c) c.in-Some.newest.now (sym (ap event_of c.in-Removed.is) ∙ c.event.ensures) c.in-Some.ensures.value c.events.ensures

-- the script, what happened and the answers stay
beside : (old new : RunningMachine) → new.script ≡ old.script → new.hub ≡ old.hub → new.answers ≡ old.answers → Beside old new
beside old new script hub answers = record { script = script; hub_script = ap (λ p. p.script) hub; hub_events = ap (λ p. p.events) hub; answers = answers }

pub begin-requires-clause-live : goal.begin-requires-clause-live
begin-requires-clause-live c =
    let old = c.args.self.now in
    let at = (goal.at.begin-requires-clause-live c).In-Define in
    created_is_live c.known.ensures c.requires.0 at.in-Define.c at.in-Define.k at.in-Define.i at.in-Define.deferred (arc_value at.in-Define.def) old (ahead_by old (defined at) (is_defined at) c.requires)

pub begin-requires-clause-place : goal.begin-requires-clause-place
begin-requires-clause-place c =
    let old = c.args.self.now in
    let at = (goal.at.begin-requires-clause-place c).In-Define in
    created_place c.known.ensures c.requires.0 at.in-Define.c at.in-Define.k at.in-Define.i at.in-Define.deferred (arc_value at.in-Define.def) old (ahead_by old (defined at) (is_defined at) c.requires)

pub begin_all-requires-clause-live : goal.begin_all-requires-clause-live
begin_all-requires-clause-live c =
    let old = c.args.self.now in
    let at = (goal.at.begin_all-requires-clause-live c).In-Build in
    subst (AllByRecursion (IsLiveNumber (state_of old.hub))) (sym c.as_slice.ensures)
    (built_are_live c.known.ensures c.requires.0 at.in-Build.c at.in-Build.k at.in-Build.indexes old (ahead_by old (built at) (is_built at) c.requires))

pub begin_all-requires-clause-places : goal.begin_all-requires-clause-places
begin_all-requires-clause-places c =
    let old = c.args.self.now in
    let at = (goal.at.begin_all-requires-clause-places c).In-Build in
    subst (AllByRecursion (λ i. i < length old.slots.items)) (sym c.as_slice.ensures)
    (built_places c.known.ensures c.requires.0 at.in-Build.c at.in-Build.k at.in-Build.indexes old (ahead_by old (built at) (is_built at) c.requires))

pub merge_all-requires : goal.merge_all-requires
merge_all-requires c =
    let old = c.args.self.now in
    let at = (goal.at.merge_all-requires c).In-Online in
    record {
      slots = subst (AllByRecursion (IsSizedSlot (length old.streams.maint.stream.at) old.slots.items)) (sym c.as_slice-in-Online.ensures)
          (online_sized c.known.ensures c.requires.0 at.in-Online.c at.in-Online.k at.in-Online.indexes old (ahead_by old (went_online at) (is_online at) c.requires));
    }

pub drop_slot-requires : goal.drop_slot-requires
drop_slot-requires c =
    let old = c.args.self.now in
    let at = (goal.at.drop_slot-requires c).In-Removed in
    record {
      place = removed_place c.known.ensures c.requires.0 at.in-Removed.c at.in-Removed.k at.in-Removed.i old (ahead_by old (dropped at) (is_dropped at) c.requires);
    }

pub returns-then-deferred : goal.returns-then-deferred
returns-then-deferred c =
    let old = c.args.self.now in
    let at = (goal.at.returns-then-deferred c).In-Define in
    has_happened old old (defined at) refl (is_defined at)
    (λ m ahead.
    follows_then c.known.ensures m (defined at) old ahead old.slots.items old.streams (leads_to_nothing c.known.ensures m (defined at) old ahead c.if-deferred.true)
    old (beside old old refl refl refl) refl refl)

pub returns-else-deferred : goal.returns-else-deferred
returns-else-deferred c =
    let old = c.args.self.now in
    let at = (goal.at.returns-else-deferred c).In-Define in
    let new : RunningMachine = record old { streams = c.begin.new.streams; slots = c.begin.new.slots } in
    let i = at.in-Define.i in
    on_ok_both c.begin.result (new.slots.items ≡ with_begun_slot old.hub i old.slots.items) (new.streams ≡ with_begun_stream old.hub.script.vbuckets i old.streams) (HasHappened old new)
    (λ slots streams.
    has_happened old new (defined at) refl (is_defined at)
    (λ m ahead.
    follows_then c.known.ensures m (defined at) old ahead (with_begun_slots old.hub (i ∷ []) old.slots.items) (with_begun_streams old.hub.script.vbuckets (i ∷ []) old.streams)
    (created_leads c.known.ensures m at.in-Define.c at.in-Define.k i at.in-Define.deferred (arc_value at.in-Define.def) old ahead) new (beside old new refl refl refl) slots streams))
    c.begin.ensures.slots c.begin.ensures.streams

pub returns-in-Build : goal.returns-in-Build
returns-in-Build c =
    let old = c.args.self.now in
    let at = (goal.at.returns-in-Build c).In-Build in
    let new : RunningMachine = record old { streams = c.begin_all.new.streams; slots = c.begin_all.new.slots } in
    let ks = at.in-Build.indexes in
    on_ok_both c.begin_all.result (new.slots.items ≡ with_begun_slots old.hub c.as_slice.result.now old.slots.items)
    (new.streams ≡ with_begun_streams old.hub.script.vbuckets c.as_slice.result.now old.streams) (HasHappened old new)
    (λ slots streams.
    has_happened old new (built at) refl (is_built at)
    (λ m ahead.
    follows_then c.known.ensures m (built at) old ahead (with_begun_slots old.hub ks old.slots.items) (with_begun_streams old.hub.script.vbuckets ks old.streams)
    (built_leads c.known.ensures m at.in-Build.c at.in-Build.k ks old ahead) new (beside old new refl refl refl)
    (slots ∙ ap (λ is. with_begun_slots old.hub is old.slots.items) c.as_slice.ensures)
    (streams ∙ ap (λ is. with_begun_streams old.hub.script.vbuckets is old.streams) c.as_slice.ensures)))
    c.begin_all.ensures.slots c.begin_all.ensures.streams

pub returns-in-Online : goal.returns-in-Online
returns-in-Online c =
    let old = c.args.self.now in
    let at = (goal.at.returns-in-Online c).In-Online in
    let new : RunningMachine = record old { streams = c.merge_all.new.streams } in
    let ks = at.in-Online.indexes in
    has_happened old new (went_online at) refl (is_online at)
    (λ m ahead.
    follows_then c.known.ensures m (went_online at) old ahead old.slots.items (merged_all old.slots.items ks old.streams)
    (online_leads c.known.ensures m at.in-Online.c at.in-Online.k ks old ahead) new (beside old new refl refl refl) refl
    (c.merge_all.ensures ∙ ap (λ is. merged_all old.slots.items is old.streams) c.as_slice-in-Online.ensures))

pub returns-in-Removed : goal.returns-in-Removed
returns-in-Removed c =
    let old = c.args.self.now in
    let at = (goal.at.returns-in-Removed c).In-Removed in
    let new : RunningMachine = record old { streams = c.end.new.self; slots = c.drop_slot.new.slots } in
    let i = at.in-Removed.i in
    has_happened old new (dropped at) refl (is_dropped at)
    (λ m ahead.
    follows_then c.known.ensures m (dropped at) old ahead (slice_set old.slots.items i None) (without_initial i old.streams)
    (removed_leads c.known.ensures m at.in-Removed.c at.in-Removed.k i old ahead) new (beside old new refl refl refl) c.drop_slot.ensures c.end.ensures)

-- another event leads to nothing
default_leads : (c : In_default-event) → LeadsToNothing (event_of c.event.result.now)
default_leads c = by c.event.result.now refl
  where
    by : (h : Held) → c.event.result.now ≡ h → LeadsToNothing (event_of h)
    by (held.Define d k i deferred def) is = absurd (c.in_default-event.not-Define d k i deferred def is)
    by (held.Build d k indexes) is = absurd (c.in_default-event.not-Build d k indexes is)
    by (held.Online d k indexes) is = absurd (c.in_default-event.not-Online d k indexes is)
    by (held.Removed d k i) is = absurd (c.in_default-event.not-Removed d k i is)
    by _ is = tt

pub returns-in_default-event : goal.returns-in_default-event
returns-in_default-event c =
    let old = c.args.self.now in
    let e = event_of c.event.result.now in
    has_happened old old e refl (newest_at old.hub.events c.events.result.now e c.in-Some.newest.now c.event.ensures c.in-Some.ensures.value c.events.ensures)
    (λ m ahead.
    follows_then c.known.ensures m e old ahead old.slots.items old.streams (leads_to_nothing c.known.ensures m e old ahead (default_leads c))
    old (beside old old refl refl refl) refl refl)
