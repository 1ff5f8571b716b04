-- What the slot of a working index tells of its newest publication, and what catching it up does.
use Rattle.std.proofs.Common.{◌≡◌, ◌≢◌, ℕ, List, length, slice_get, Option, Some, None, refl, sym, ap, ◌∙◌, subst}
use Rattle.std.specs.Prelude.{IfSome}
use Rattle.std.specs.List.{AllByRecursion}
use Rattle.std.specs.Arc.{arc_value}
use Rattle.vb_store.specs.Mutations.{high_of}
use Rattle.n1ql_value.specs.declared.state.State.TheVariants.{Deferred}
use Rattle.index_def.specs.LiveIndexes.{Live, numbered}
use Rattle.dcp_stream.specs.declared.piece.Piece.{Piece}
use Rattle.dcp_stream.specs.Pieces.{PieceStands}
use Rattle.index_snapshot.specs.declared.snapshot.Snapshot.{Snapshot}
use Rattle.index_snapshot.specs.Stands.{SnapshotStands}
use Rattle.scan_history.specs.declared.script.Script.{Script}
use Rattle.scan_history.specs.Fold.{State, state_after}
use Rattle.gsi_hub.specs.declared.published.Published.{Published as Publication}
use Rattle.gsi_hub.specs.declared.published.Published.TheVariants.{Published, Stale, Dropped}
use Rattle.gsi_hub.specs.Outcomes.{IsPublished}
use Rattle.gsi_hub.specs.Past.{Past, state_of, high_in as hub_high, IsAsBefore}
use Rattle.gsi_hub.specs.Snapshots.{IsNewestAmong, IsNewestOf}
use Rattle.gsi_sched.specs.Machine.{Worker, Machine}
use Rattle.gsi_sched.specs.ClientActions.{catch_up}
use Rattle.gsi_sched.specs.ScheduleLines.{publish_at, publish_now}
use Rattle.gsi_sched.specs.Slots.{Slot}
use Rattle.gsi_sched.specs.inner.Known.{Known}
use Rattle.gsi_sched.specs.inner.SlotLists.{OnSlot, IsPieceFor, IsSnapshotOf, IsWorkingNumber, with_slot, snapshot_taken}
use Rattle.gsi_sched.specs.inner.Following.{Follows, IsFollowing, Goes, IsAt, with_worker_at, IsWorkingIn}
use Rattle.gsi_sched.specs.declared.machine.RunningMachine.{RunningMachine}
use Rattle.gsi_sched.proofs.Served.{put_same}
use Rattle.gsi_sched.proofs.LiveIndexes.{found_is}
use Rattle.gsi_sched.proofs.PiecesAbove.{pieces_fit}
use Rattle.gsi_sched.proofs.FollowedParts.{on_slot, by_slot, its_slot, same_state}
use Rattle.gsi_sched.proofs.FollowedCatchUps.{nothing_new, publication_follows, snapshot_index, snapshot_def, snapshot_stands}

-- ---- the newest publication of a working index

module _ (r : RunningMachine) (i : ℕ) (works : IsWorkingIn r i) where
  newest_among : (found : Option Snapshot) → IsNewestOf r.hub i found → IsNewestAmong r.hub.script.vbuckets (state_of r.hub) (Some works.0) found
  newest_among found is = subst (λ o. IsNewestAmong r.hub.script.vbuckets (state_of r.hub) o found) works.1 is

  -- there is one
  pub newest_there : ¬ IsNewestOf r.hub i None
  newest_there is = newest_among None is

  pub newest_vector : (x : Snapshot) → IsNewestOf r.hub i (Some x) → arc_value x.vector ≡ (state_of r.hub).published i
  newest_vector x is =
      (newest_among (Some x) is).vector ∙ ap (λ j. (state_of r.hub).published j) (found_is i (state_of r.hub).live works.0 works.1)

  pub newest_size : (x : Snapshot) → IsNewestOf r.hub i (Some x) → length (arc_value x.vector) ≡ r.hub.script.vbuckets
  newest_size x is = (newest_among (Some x) is).stands.at.size

  -- its slot, where that is read
  module _ (following : IsFollowing r) (slot : Slot) (there : slice_get r.slots.items i ≡ Some (Some slot)) where
    pub vector_size : length slot.worker.taken.at ≡ r.hub.script.vbuckets
    vector_size =
        let at = its_slot following.0 r following.1 i works in
        by_slot (λ (slot : Slot). length slot.worker.taken.at ≡ r.hub.script.vbuckets) (slice_get r.slots.items i) slot there
        (on_slot (λ (slot : Slot). length slot.worker.taken.at ≡ r.hub.script.vbuckets) (slice_get r.slots.items i) at.slot at.there at.kept.worker.at.size)

    pub is_at_from : (v : List ℕ) → slot.worker.taken.at ≡ v → IsAt r i v
    is_at_from v is = on_slot (λ slot. slot.worker.taken.at ≡ v) (slice_get r.slots.items i) slot there is

    pub is_at_then : (v : List ℕ) → IsAt r i v → slot.worker.taken.at ≡ v
    is_at_then v is = by_slot (λ slot. slot.worker.taken.at ≡ v) (slice_get r.slots.items i) slot there is

    -- pieces that stand can be given to it
    pub pieces_fit_there : (pieces : List Piece) → AllByRecursion (PieceStands r.hub.script.vbuckets (state_of r.hub).log) pieces
        → OnSlot (λ slot. AllByRecursion (IsPieceFor slot) pieces) (slice_get r.slots.items i)
    pieces_fit_there pieces stand =
        on_slot (λ slot. AllByRecursion (IsPieceFor slot) pieces) (slice_get r.slots.items i) slot there
        (pieces_fit r.hub.script.vbuckets (state_of r.hub).log slot pieces vector_size stand)

-- ---- a snapshot of its slot, when there is more room

module _ (known : Known) (r : RunningMachine) (i : ℕ) (following : IsFollowing r) (works : IsWorkingIn r i) (x : Snapshot)
    (snapped : OnSlot (λ slot. IsSnapshotOf slot x) (slice_get r.slots.items i)) (mid : Past) (before : IsAsBefore r.hub mid) where
  pub state_before : state_of mid ≡ state_of r.hub
  state_before =
      ap (λ (script : Script). state_after script.vbuckets mid.events) before.script ∙ ap (state_after r.hub.script.vbuckets) before.events

  pub stands_before : SnapshotStands mid.script.vbuckets (state_of mid).log x
  stands_before =
      subst (λ (t : State). SnapshotStands mid.script.vbuckets t.log x) (sym state_before)
      (subst (λ (script : Script). SnapshotStands script.vbuckets (state_of r.hub).log x) (sym before.script) (snapshot_stands known r following.0 following.1 i works x snapped))

  abbrev Serves : Live → Type 0
  Serves index = (index.def ≡ arc_value x.def) × (index.state ≢ Deferred)

  pub served_before : IfSome (numbered x.index (state_of mid).live) Serves
  served_before =
      subst (λ j. IfSome (numbered j (state_of mid).live) Serves) (sym (snapshot_index known r following.0 following.1 i works x snapped))
      (subst (λ o. IfSome o Serves) (sym (ap (λ (t : State). numbered i t.live) state_before ∙ works.1))
      (snapshot_def known r following.0 following.1 i works x snapped, works.2))

-- ---- published

-- where nothing is new, all stays
pub unpublished_goes : (known : Known) (r : RunningMachine) (i : ℕ) → IsWorkingIn r i → IsAt r i ((state_of r.hub).published i) → Goes (publish_now r.hub.script.vbuckets i) r r
unpublished_goes known r i works is_at = record {
  script = refl;
  follows = λ m f. subst (λ (t : Machine). Follows t r) (sym (nothing_new known r m f i works is_at)) f;
}

script_after : (i : ℕ) (at : List ℕ) (p : Past) (o : Publication) (q : Past) → IsPublished i at p o q → q.script ≡ p.script
script_after i at p Published q is = is.1.script
script_after i at p Stale q is = ap (λ (x : Past). x.script) is.1
script_after i at p Dropped q is = ap (λ (x : Past). x.script) is.1

module _ (known : Known) (r : RunningMachine) (i : ℕ) (works : IsWorkingIn r i) (x : Snapshot)
    (snapped : OnSlot (λ slot. IsSnapshotOf slot x) (slice_get r.slots.items i)) (mid : Past) (before : IsAsBefore r.hub mid) where
  pub published_goes : (t : RunningMachine) → t.script ≡ r.script → t.streams ≡ r.streams → t.answers ≡ r.answers → t.slots.items ≡ with_slot snapshot_taken i r.slots.items
      → (at : List ℕ) → at ≡ arc_value x.vector → (o : Publication) → IsPublished x.index at mid o t.hub
      → ¬ IsAt r i ((state_of r.hub).published i) → Goes (publish_now r.hub.script.vbuckets i) r t
  published_goes t script streams answers slots at is o given unpublished = record {
    script = script_after x.index at mid o t.hub given ∙ before.script;
    follows = λ m f.
        publication_follows known r m f i works x snapped t mid script streams answers slots before o
        (subst (λ (v : List ℕ). IsPublished x.index v mid o t.hub) is given) unpublished;
  }

-- ---- caught up

-- the index works on, as nothing happened
pub works_still : (old mid : RunningMachine) (i : ℕ) (at : List ℕ) → Goes (with_worker_at at i) old mid → IsFollowing old → IsWorkingIn old i → IsWorkingIn mid i
works_still old mid i at up following works =
    let m = following.0 in
    let same : state_of old.hub ≡ state_of mid.hub =
    same_state m old following.1
    ∙ (ap (λ (script : Script). state_after script.vbuckets m.events) (sym up.script) ∙ sym (same_state (with_worker_at at i m) mid (up.follows m following.1))) in
    subst (λ (t : State). IsWorkingNumber t i) same works

pub caught_up_goes : (old mid new : RunningMachine) (i : ℕ) → Goes (with_worker_at (hub_high old.hub) i) old mid → Goes (publish_now mid.hub.script.vbuckets i) mid new
    → Goes (λ m. catch_up old.hub.script.vbuckets m i) old new
caught_up_goes old mid new i up out = record {
  script = out.script ∙ up.script;
  follows = λ m f.
      let n = old.hub.script.vbuckets in
      let high = hub_high old.hub in
      let u : Machine = with_worker_at high i m in
      let there : Follows (publish_now n i u) new =
      subst (λ (script : Script). Follows (publish_now script.vbuckets i u) new) up.script (out.follows u (up.follows m f)) in
      let at_high : Follows (publish_at n high i u) new =
      subst (λ (w : Worker). Follows (publish_at n w.at i u) new) (put_same i (record (m.worker i) { at = high }) m.worker) there in
      subst (λ (v : List ℕ). Follows (publish_at n v i (with_worker_at v i m)) new) (ap (λ (t : State). high_of n t.log) (same_state m old f)) at_high;
}
