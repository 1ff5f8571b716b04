-- A worker that is brought up, and a publication, are followed.
use Rattle.std.proofs.Common.{◌≡◌, ◌≢◌, ◌⊎◌, ℕ, ◌==◌, List, [], ◌∷◌, ◌++◌, map as map_list, length, slice_get, Some, None, MatchOption, refl, sym, ap, ◌∙◌, subst, inl, inr}
use Rattle.std.specs.Prelude.{IfSome}
use Rattle.std.specs.Arc.{arc_value}
use Rattle.std.specs.List.{AllByRecursion}
use Rattle.std.specs.FinMap as map
use Rattle.std.specs.Str.{bytes_eq}
use Rattle.std.proofs.lemmas.Bool.{cond-true, cond-false, ne_eqb, false_from_ne_true}
use Rattle.std.proofs.lemmas.Option.{same_Some}
use Rattle.std.proofs.lemmas.Slice.Eq.{bytes_eq-Decides}
use Rattle.seq_vector.specs.Vectors.{IsCovered}
use Rattle.vb_store.specs.Mutations.{high_of}
use Rattle.index_def.specs.declared.definition.IndexDef.{IndexDef}
use Rattle.index_def.specs.LiveIndexes.{Live, numbered}
use Rattle.dcp_stream.specs.declared.piece.Piece.{Piece}
use Rattle.dcp_stream.specs.Pieces.{PieceStands}
use Rattle.stream_merge.specs.Joined.{Joined}
use Rattle.key_eval.specs.declared.projected.Projected.{Projected}
use Rattle.index_snapshot.specs.declared.snapshot.Snapshot.{Snapshot}
use Rattle.index_snapshot.specs.Stands.{SnapshotStands}
use Rattle.scan_history.specs.declared.script.Script.{Script}
use Rattle.scan_history.specs.Answers.{answers_of}
use Rattle.scan_history.specs.Events.{Event, publish}
use Rattle.scan_history.specs.Fold.{State, step, state_after}
use Rattle.scan_history.specs.Sound.{IsSound}
use Rattle.gsi_hub.specs.declared.published.Published.{Published as Publication}
use Rattle.gsi_hub.specs.declared.published.Published.TheVariants.{Published, Stale, Dropped}
use Rattle.gsi_hub.specs.Outcomes.{IsPublished}
use Rattle.gsi_hub.specs.Past.{Past, state_of, high_in as hub_high, IsAsBefore, Adds}
use Rattle.gsi_hub.specs.Pieces.{pieces_above}
use Rattle.gsi_sched.specs.Machine.{Worker, Machine, now_in, high_in, published_in, put_at, with_event, with_worker}
use Rattle.gsi_sched.specs.ScheduleLines.{publish_now}
use Rattle.gsi_sched.specs.Running.{IsServed, IsWorking, IsRunning}
use Rattle.gsi_sched.specs.Slots.{Slot, after_deliveries, BringUp, IsKept}
use Rattle.gsi_sched.specs.inner.Known.{Known}
use Rattle.gsi_sched.specs.inner.SlotLists.{OnSlot, with_slot, all_given, snapshot_taken, IsSnapshotOf, projected_as, IfNumbered}
use Rattle.gsi_sched.specs.inner.Following.{IsSlotOf, initial_numbers, Keeps, Follows, IsAt, with_worker_at, IsWorkingIn}
use Rattle.gsi_sched.specs.declared.machine.RunningMachine.{RunningMachine}
use Rattle.gsi_sched.proofs.Answers.{answers_same}
use Rattle.gsi_sched.proofs.Served.{put_same}
use Rattle.gsi_sched.proofs.Steps.{worker_changed}
use Rattle.gsi_sched.proofs.CatchUps.{published_new}
use Rattle.gsi_sched.proofs.KeptSlots.{catches_up}
use Rattle.gsi_sched.proofs.Deliveries.{brought_up}
use Rattle.gsi_sched.proofs.SlotPlaces.{with_slot_length, slots_changed}
use Rattle.gsi_sched.proofs.PiecesAbove.{deliveries_index, projections, above_brings_up}
use Rattle.gsi_sched.proofs.FollowedParts.{Beside, by_slot, same_state, follows_on, numbered_now, works_now, its_slot, slot_at_worker}

-- another member of a family
pub put_other : {A : Type 0} (i j : ℕ) (a : A) (f : ℕ → A) → j ≢ i → put_at i a f j ≡ f j
put_other i j a f other = cond-false (j == i) a (f j) (ne_eqb j i other)

module _ (known : Known) (old : RunningMachine) (m : Machine) (f : Follows m old) (i : ℕ) (works : IsWorkingIn old i) where
  abbrev script : Script
  script = old.hub.script

  abbrev n : ℕ
  n = script.vbuckets

  abbrev s : State
  s = now_in n m

  works_here : IsWorking s.live i
  works_here = works_now m old f i works

  -- what is given for the number of the index
  of_its_index : (P : Live → Type 0) → IfNumbered (state_of old.hub) i P → P works.0
  of_its_index P given = subst (λ o. IfSome o P) works.1 given

  -- a slot that is kept has the index's definition, and is where the machine's worker is
  its_own : (index : Live) → numbered i s.live ≡ Some index → works.0 ≡ index
  its_own index found = same_Some works.0 index (sym (numbered_now m old f i works) ∙ found)

  -- ---- it is brought up

  module _ (new : RunningMachine) (beside : Beside old new) (streams : new.streams ≡ old.streams) (at : List ℕ) (pieces : List Piece)
      (is_at : IsAt old i at)
      (are : pieces ≡ pieces_above n (state_of old.hub).log at)
      (stand : AllByRecursion (PieceStands n (state_of old.hub).log) pieces)
      (given : IfNumbered (state_of old.hub) i (λ index. new.slots.items ≡ with_slot (all_given (map_list (projected_as i index.def) pieces)) i old.slots.items)) where
    abbrev def : IndexDef
    def = works.0.def

    abbrev ps : List Projected
    ps = map_list (projected_as i def) pieces

    abbrev w : Worker
    w = record (m.worker i) { at = high_in n m }

    worker_is_at : (m.worker i).at ≡ at
    worker_is_at =
        let there = its_slot m old f i works in
        sym (slot_at_worker m old f i works.0 there.slot (m.worker i) there.kept)
        ∙ by_slot (λ slot. slot.worker.taken.at ≡ at) (slice_get old.slots.items i) there.slot there.there is_at

    their_pieces : pieces ≡ pieces_above n s.log at
    their_pieces = are ∙ ap (λ (t : State). pieces_above n t.log at) (same_state m old f)

    they_stand : AllByRecursion (PieceStands n s.log) (pieces_above n s.log at)
    they_stand =
        subst (AllByRecursion (PieceStands n s.log)) their_pieces
        (subst (λ (t : State). AllByRecursion (PieceStands n t.log) pieces) (same_state m old f) stand)

    bring : (slot : Slot) → slot.worker.def ≡ def → slot.worker.taken.at ≡ at → BringUp n s.log slot.worker ps
    bring slot own is =
        let standing : AllByRecursion (PieceStands n s.log) (pieces_above n s.log slot.worker.taken.at) =
        subst (λ (v : List ℕ). AllByRecursion (PieceStands n s.log) (pieces_above n s.log v)) (sym is) they_stand in
        let same : projections n s.log slot.worker standing i ≡ ps =
        ap (λ (d : IndexDef). map_list (projected_as i d) (pieces_above n s.log slot.worker.taken.at)) own
        ∙ (ap (λ (v : List ℕ). map_list (projected_as i def) (pieces_above n s.log v)) is ∙ ap (map_list (projected_as i def)) (sym their_pieces)) in
        subst (BringUp n s.log slot.worker) same (above_brings_up n s.log slot.worker standing i)

    kept_then : (slot : Slot) (index : Live) → numbered i s.live ≡ Some index → IsKept n s.log index.def slot (m.worker i) → IsKept n s.log index.def (all_given ps slot) w
    kept_then slot index found kept =
        let own : slot.worker.def ≡ def = kept.own ∙ ap (λ (x : Live). x.def) (sym (its_own index found)) in
        let up = brought_up known.below known.stood n s.log slot.worker ps kept.worker
        (bring slot own (slot_at_worker m old f i index slot (m.worker i) kept ∙ worker_is_at)) in
        catches_up known.stood n s.log index.def (after_deliveries ps slot.worker) slot (m.worker i) up.0 (up.1 ∙ kept.own) up.2 kept

    runs_then : IsRunning script (with_worker i w m)
    runs_then =
        let reached = (known.below.consistent script m.events f.runs.legal).published i in
        let served : IsServed (high_in n m) (published_in n i m) w =
        record { size = refl; forth = reached.below; reached = known.below.reflexive (high_in n m); inbox = (f.runs.serving.worker i).inbox } in
        worker_changed known.below script m i w works_here f.runs served

    pub brought_follows : Follows (with_worker_at (hub_high old.hub) i m) new
    brought_follows =
        let slots : new.slots.items ≡ with_slot (all_given ps) i old.slots.items =
        of_its_index (λ index. new.slots.items ≡ with_slot (all_given (map_list (projected_as i index.def) pieces)) i old.slots.items) given in
        let changed = slots_changed n s (all_given ps) i m.worker (put_at i w m.worker) old.slots.items
        (λ j other. put_other i j w m.worker other)
        (λ slot index found kept. subst (IsKept n s.log index.def (all_given ps slot)) (sym (put_same i w m.worker)) (kept_then slot index found kept))
        (λ slot. deliveries_index ps slot.worker) f.keeps.slots in
        subst (λ (t : State). Follows (with_worker_at (high_of n t.log) i m) new) (sym (same_state m old f))
        (follows_on m (with_worker i w m) old new beside f refl runs_then (record {
          maint = ap (λ (st : Joined). st.maint.stream) streams ∙ f.keeps.maint;
          initial = λ j index found building. ap (λ (st : Joined). initial_numbers (map.get st.initial j)) streams ∙ f.keeps.initial j index found building;
          slots = λ j index found built. subst (λ xs. IsSlotOf n s j index (put_at i w m.worker j) (slice_get xs j)) (sym slots) (changed j index found built);
          places = ap length slots ∙ with_slot_length (all_given ps) old.slots.items i ∙ f.keeps.places;
        }))

  -- ---- it is published

  -- where it is published so far
  pub nothing_new : IsAt old i ((state_of old.hub).published i) → publish_now n i m ≡ m
  nothing_new is_at =
      let there = its_slot m old f i works in
      let same : (m.worker i).at ≡ published_in n i m =
      sym (slot_at_worker m old f i works.0 there.slot (m.worker i) there.kept)
      ∙ (by_slot (λ slot. slot.worker.taken.at ≡ (state_of old.hub).published i) (slice_get old.slots.items i) there.slot there.there is_at
      ∙ ap (λ (t : State). t.published i) (same_state m old f)) in
      cond-true (bytes_eq (m.worker i).at (published_in n i m)) m (with_event (publish i (m.worker i).at) m) ((bytes_eq-Decides (m.worker i).at (published_in n i m)).1 same)

  its_vector : (m.worker i).at ≡ published_in n i m → IsAt old i ((state_of old.hub).published i)
  its_vector same =
      let there = its_slot m old f i works in
      subst (OnSlot (λ slot. slot.worker.taken.at ≡ (state_of old.hub).published i)) (sym there.there)
      (slot_at_worker m old f i works.0 there.slot (m.worker i) there.kept ∙ (same ∙ ap (λ (t : State). t.published i) (sym (same_state m old f))))

  -- a snapshot of its slot
  module _ (x : Snapshot) (snapped : OnSlot (λ slot. IsSnapshotOf slot x) (slice_get old.slots.items i)) where
    its_snapshot : IsSnapshotOf (its_slot m old f i works).slot x
    its_snapshot = let there = its_slot m old f i works in by_slot (λ slot. IsSnapshotOf slot x) (slice_get old.slots.items i) there.slot there.there snapped

    pub snapshot_index : x.index ≡ i
    snapshot_index = its_snapshot.index ∙ (its_slot m old f i works).own

    pub snapshot_def : works.0.def ≡ arc_value x.def
    snapshot_def = sym (its_snapshot.def ∙ (its_slot m old f i works).kept.own)

    pub snapshot_vector : arc_value x.vector ≡ (m.worker i).at
    snapshot_vector =
        let there = its_slot m old f i works in
        its_snapshot.vector ∙ slot_at_worker m old f i works.0 there.slot (m.worker i) there.kept

    pub snapshot_stands : SnapshotStands n (state_of old.hub).log x
    snapshot_stands =
        subst (λ (t : State). SnapshotStands n t.log x) (sym (same_state m old f))
        (its_snapshot.stands n s.log (its_slot m old f i works).kept.worker)

    -- what the hub answers
    added : (at : List ℕ) (p : Past) (o : Publication) (q : Past) → IsPublished i at p o q → numbered i (state_of p).live ≡ Some works.0
        → IsCovered ((state_of p).published i) at → at ≢ (state_of p).published i → Adds (publish i at) p q
    added at p Published q is found forth other = is.1
    added at p Stale q is found forth other =
        let why = subst (λ o. MatchOption o ⊥ (λ (index : Live). (¬ IsCovered ((state_of p).published i) at) ⊎ (at ≡ (state_of p).published i))) found is.0 in
        elim why [ inl short ↦ absurd (short forth) | inr same ↦ absurd (other same) ]
    added at p Dropped q is found forth other = let no : None ≡ Some works.0 = sym is.0 ∙ found in absurd cc

    module _ (new : RunningMachine) (mid : Past) (same_script : new.script ≡ old.script) (streams : new.streams ≡ old.streams) (answers : new.answers ≡ old.answers)
        (slots : new.slots.items ≡ with_slot snapshot_taken i old.slots.items) (before : IsAsBefore old.hub mid)
        (o : Publication) (given : IsPublished x.index (arc_value x.vector) mid o new.hub)
        (unpublished : ¬ IsAt old i ((state_of old.hub).published i)) where
      abbrev at : List ℕ
      at = (m.worker i).at

      abbrev e : Event
      e = publish i at

      mid_state : state_of mid ≡ s
      mid_state =
          ap (λ (script : Script). state_after script.vbuckets mid.events) before.script ∙ (ap (state_after n) before.events ∙ same_state m old f)

      is_other : at ≢ published_in n i m
      is_other same = unpublished (its_vector same)

      adds : Adds e mid new.hub
      adds =
          added at mid o new.hub (subst (λ (v : List ℕ). IsPublished i v mid o new.hub) snapshot_vector (subst (λ j. IsPublished j (arc_value x.vector) mid o new.hub) snapshot_index given))
          (ap (λ (t : State). numbered i t.live) mid_state ∙ numbered_now m old f i works)
          (subst (λ (t : State). IsCovered (t.published i) at) (sym mid_state) (f.runs.serving.worker i).forth)
          (subst (λ (t : State). at ≢ t.published i) (sym mid_state) is_other)

      published : IsRunning script (with_event e m)
      published =
          let was = f.runs.serving.worker i in
          (published_new known.below script known.some_read.0 known.some_read.1 m i at f.runs works_here was.forth was.size was.reached
          (known.below.reflexive at) is_other).0

      hub_script : new.hub.script ≡ script
      hub_script = adds.script ∙ before.script

      hub_events : new.hub.events ≡ m.events ++ e ∷ []
      hub_events = adds.events ∙ ap (λ (events : List Event). events ++ e ∷ []) (before.events ∙ f.events)

      -- the slots stand in the new state
      keeps_then : Keeps n (now_in n (with_event e m)) (with_event e m) new
      keeps_then =
          let then : now_in n (with_event e m) ≡ step n s e = known.below.one_more n m.events e in
          let changed = slots_changed n s snapshot_taken i m.worker m.worker old.slots.items (λ j other. refl)
          (λ slot index found kept. record { own = kept.own; worker = record { at = kept.worker.at; rows = kept.worker.rows }; pieces = kept.pieces; numbers = kept.numbers })
          (λ slot. refl) f.keeps.slots in
          subst (λ (t : State). Keeps n t (with_event e m) new) (sym then) (record {
            maint = ap (λ (st : Joined). st.maint.stream) streams ∙ f.keeps.maint;
            initial = λ j index found building. ap (λ (st : Joined). initial_numbers (map.get st.initial j)) streams ∙ f.keeps.initial j index found building;
            slots = λ j index found built. subst (λ xs. IsSlotOf n s j index (m.worker j) (slice_get xs j)) (sym slots) (changed j index found built);
            places = ap length slots ∙ with_slot_length snapshot_taken old.slots.items i ∙ f.keeps.places;
          })

      follows_then : Follows (with_event e m) new
      follows_then = record {
        sound = subst IsSound (sym hub_script) f.sound;
        script = ap arc_value same_script ∙ (f.script ∙ sym hub_script);
        runs = subst (λ (script : Script). IsRunning script (with_event e m)) (sym hub_script) published;
        events = hub_events;
        keeps = subst (λ (script : Script). Keeps script.vbuckets (now_in script.vbuckets (with_event e m)) (with_event e m) new) (sym hub_script) keeps_then;
        answers =
            answers ∙ (f.answers ∙ (ap (answers_of script) f.events
            ∙ (sym (answers_same script known.answers_stay m.events e published.legal tt)
            ∙ (ap (λ (script : Script). answers_of script (m.events ++ e ∷ [])) (sym hub_script) ∙ ap (answers_of new.hub.script) (sym hub_events)))));
      }

      pub publication_follows : Follows (publish_now n i m) new
      publication_follows =
          subst (λ (t : Machine). Follows t new)
          (sym (cond-false (bytes_eq at (published_in n i m)) m (with_event e m)
          (false_from_ne_true (bytes_eq at (published_in n i m)) (λ same. is_other ((bytes_eq-Decides at (published_in n i m)).0 same)))))
          follows_then
