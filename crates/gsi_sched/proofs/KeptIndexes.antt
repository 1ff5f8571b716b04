-- Each step of the machine keeps the slots of all building and online indexes.
use Rattle.std.proofs.Common.{◌≡◌, ◌≢◌, ◌⊎◌, ℕ, ◌<◌, ◌≤◌, Bool, true, false, not, cond, ◌==◌, [], ◌∷◌, ◌++◌, length, Option, Some, None, refl, sym, ap, ◌∙◌, subst, inl, inr}
use Rattle.std.proofs.lemmas.Option.{same_Some}
use Rattle.std.specs.Option.{option_map_or}
use Rattle.std.proofs.lemmas.Bool.{cond_both, true≢false}
use Rattle.vb_store.specs.Mutations.{IsNumbered}
use Rattle.n1ql_value.specs.declared.state.State.{State as Stage}
use Rattle.n1ql_value.specs.declared.state.State.TheVariants.{Deferred, Building, Online}
use Rattle.index_def.specs.LiveIndexes.{Live, numbered, is_deferred}
use Rattle.dcp_stream.specs.Streams.{Bounds}
use Rattle.key_eval.specs.declared.projected.Projected.{Projected}
use Rattle.key_eval.specs.Stands.{ProjectedStands}
use Rattle.index_snapshot.specs.Workers.{Worker as RowWorker}
use Rattle.index_snapshot.specs.Stands.{WorkerStands}
use Rattle.scan_history.specs.declared.script.Script.{Script}
use Rattle.scan_history.specs.Consistent.{IsConsistent}
use Rattle.scan_history.specs.Events.{Event}
use Rattle.scan_history.specs.Fold.{State, state_after}
use Rattle.gsi_sched.specs.Machine.{Worker, Machine, first_machine, put_at, now_in, high_in, with_event, with_worker, sent, unsent}
use Rattle.gsi_sched.specs.ScheduleLines.{is_online_in, given, given_to, lose}
use Rattle.gsi_sched.specs.Running.{HasNotBegun, IsRunning}
use Rattle.gsi_sched.specs.Slots.{Slot, numbers_in, first_slot, with_piece, without_piece, after_delivery, numbers_after_delivery, IsKept, is_working, begun_slots, given_slots, AreKept}
use Rattle.gsi_sched.specs.inner.Below.{Below}
use Rattle.gsi_sched.specs.inner.Stood.{Stood}
use Rattle.gsi_sched.proofs.Served.{same_number}
use Rattle.gsi_sched.proofs.Steps.{ordered, each_found}
use Rattle.gsi_sched.proofs.KeptSlots.{grows, begins, sends, loses, delivers, catches_up}

-- by whether an index is building or online
works_by : (state : Stage) → not (is_deferred state) ≡ true → state ≢ Deferred
works_by state is e = true≢false (sym is ∙ ap (λ x. not (is_deferred x)) e)

waits_by : (state : Stage) → not (is_deferred state) ≡ false → state ≡ Deferred
waits_by Deferred is = refl
waits_by Building is = absurd (true≢false is)
waits_by Online is = absurd (true≢false is)

works_at : (s : State) (i : ℕ) (o : Option Live) → numbered i s.live ≡ o → is_working s i ≡ option_map_or (λ (index : Live). not (is_deferred index.state)) o false
works_at s i o is = ap (λ o. option_map_or (λ (index : Live). not (is_deferred index.state)) o false) is

module _ (below : Below) (stood : Stood) (script : Script) where
  abbrev n : ℕ
  n = script.vbuckets

  -- before the first step there is no index
  pub first_kept : (slots : ℕ → Slot) → AreKept n (first_machine n) slots
  unfolding state_after
  first_kept slots i index found built = absurd cc

  -- ---- an event

  module _ (m : Machine) (e : Event) (slots : ℕ → Slot) (runs : IsRunning script m) (runs_on : IsRunning script (with_event e m)) (kept : AreKept n m slots) where
    abbrev s : State
    s = now_in n m

    abbrev t : State
    t = now_in n (with_event e m)

    holds : IsConsistent n s
    holds = below.consistent script m.events runs.legal

    holds_then : IsConsistent n t
    holds_then = below.consistent script (m.events ++ e ∷ []) runs_on.legal

    -- an index keeps its definition
    still_defined : (i : ℕ) (index later : Live) → numbered i s.live ≡ Some index → numbered i t.live ≡ Some later → index.def ≡ later.def
    still_defined i index later found found_then =
        let was = each_found n s holds i index found in
        let is = each_found n t holds_then i later found_then in
        same_Some index.def later.def (sym (below.made n m.events (e ∷ []) i index.def was) ∙ is)

    -- one that is new has nothing
    begun_now : (i : ℕ) (later : Live) → numbered i t.live ≡ Some later → HasNotBegun s i → IsKept n t.log later.def (first_slot i later.def n) (m.worker i)
    begun_now i later found_then before =
        subst (λ w. IsKept n t.log later.def (first_slot i later.def n) w) (sym (runs.serving.fresh i before).0) (begins stood n t.log later.def i holds_then.log)

    pub had_not_begun : (i : ℕ) (later : Live) → numbered i t.live ≡ Some later → is_working s i ≡ false → HasNotBegun s i
    had_not_begun i later found_then none = by (numbered i s.live) refl
      where
        unless_made : (length s.defs ≤ i) ⊎ (i < length s.defs) → numbered i s.live ≡ None → HasNotBegun s i
        unless_made (inl above) gone = inl above
        unless_made (inr made) gone =
            let absent : None ≡ Some later = sym (below.dropped script m.events (e ∷ []) i runs_on.legal made gone) ∙ found_then in
            absurd cc

        by : (o : Option Live) → numbered i s.live ≡ o → HasNotBegun s i
        by None gone = unless_made (ordered (length s.defs) i) gone
        by (Some index) found = inr (index, found, waits_by index.state (sym (works_at s i (Some index) found) ∙ none))

    carried : (i : ℕ) (later : Live) → numbered i t.live ≡ Some later → is_working s i ≡ true → IsKept n t.log later.def (slots i) (m.worker i)
    carried i later found_then works = by (numbered i s.live) refl
      where
        by : (o : Option Live) → numbered i s.live ≡ o → IsKept n t.log later.def (slots i) (m.worker i)
        by None gone = absurd (true≢false (sym works ∙ works_at s i None gone))
        by (Some index) found =
            let old = kept i index found (works_by index.state (sym (works_at s i (Some index) found) ∙ works)) in
            let longer = below.log_grows n m.events (e ∷ []) in
            let numbered_then : IsNumbered n (s.log ++ longer.0) = subst (IsNumbered n) (sym longer.1) holds_then.log in
            let grown = grows stood n s.log index.def longer.0 (slots i) (m.worker i) numbered_then old in
            subst (λ def. IsKept n t.log def (slots i) (m.worker i)) (still_defined i index later found found_then)
            (subst (λ log. IsKept n log index.def (slots i) (m.worker i)) longer.1 grown)

    pub event_keeps : AreKept n (with_event e m) (begun_slots n s t slots)
    event_keeps i later found_then built =
        cond_both (is_working s i) (slots i) (option_map_or (λ (index : Live). first_slot i index.def n) (numbered i t.live) (slots i))
        (λ slot. IsKept n t.log later.def slot (m.worker i))
        (carried i later found_then)
        (λ none.
        subst (λ o. IsKept n t.log later.def (option_map_or (λ (index : Live). first_slot i index.def n) o (slots i)) (m.worker i)) (sym found_then)
        (begun_now i later found_then (had_not_begun i later found_then none)))

  -- ---- one index

  pub one_changed : (m : Machine) (i : ℕ) (slot : Slot) (w : Worker) (slots : ℕ → Slot) → AreKept n m slots
      → ((index : Live) → numbered i (now_in n m).live ≡ Some index → index.state ≢ Deferred → IsKept n (now_in n m).log index.def slot w)
      → AreKept n (with_worker i w m) (put_at i slot slots)
  one_changed m i slot w slots kept own j index found built =
      let Holds : Slot → Worker → Type 0 = IsKept n (now_in n m).log index.def in
      let by : (b : Bool) → (j == i) ≡ b → Holds (cond b slot (slots j)) (cond b w (m.worker j)) =
      λ b. elim b as (λ b. (j == i) ≡ b → Holds (cond b slot (slots j)) (cond b w (m.worker j))) [
        | true ↦ λ is. own index (subst (λ k. numbered k (now_in n m).live ≡ Some index) (same_number i j is) found) built
        | false ↦ λ other. kept j index found built
      ] in
      by (j == i) refl

  pub deliver_kept : (m : Machine) (place i : ℕ) (slots : ℕ → Slot) → AreKept n m slots
      → AreKept n (with_worker i (numbers_after_delivery place (m.worker i)) m) (put_at i (after_delivery place (slots i)) slots)
  deliver_kept m place i slots kept =
      one_changed m i (after_delivery place (slots i)) (numbers_after_delivery place (m.worker i)) slots kept
      (λ index found built. delivers stood n (now_in n m).log index.def place (slots i) (m.worker i) (kept i index found built))

  pub lose_kept : (m : Machine) (place i : ℕ) (slots : ℕ → Slot) → AreKept n m slots → AreKept n (lose n place i m) (put_at i (without_piece place (slots i)) slots)
  lose_kept m place i slots kept =
      one_changed m i (without_piece place (slots i)) (unsent place (m.worker i)) slots kept
      (λ index found built. loses stood n (now_in n m).log index.def place (slots i) (m.worker i) (kept i index found built))

  pub send_kept : (m : Machine) (i : ℕ) (b : Bounds) (p : Projected) (slots : ℕ → Slot) → AreKept n m slots
      → ((index : Live) → numbered i (now_in n m).live ≡ Some index → ProjectedStands n index.def (now_in n m).log p) → numbers_in p ≡ b
      → AreKept n (given_to n i b m) (put_at i (with_piece p (slots i)) slots)
  send_kept m i b p slots kept stands same =
      one_changed m i (with_piece p (slots i)) (sent b (m.worker i)) slots kept
      (λ index found built. sends stood n (now_in n m).log index.def p b (slots i) (m.worker i) (stands index found) same (kept i index found built))

  pub catch_up_kept : (m : Machine) (i : ℕ) (v : RowWorker) (slots : ℕ → Slot) → AreKept n m slots
      → WorkerStands n (now_in n m).log v → v.taken.at ≡ high_in n m → ((index : Live) → numbered i (now_in n m).live ≡ Some index → v.def ≡ index.def)
      → AreKept n (with_worker i (record (m.worker i) { at = high_in n m }) m) (put_at i (record (slots i) { worker = v }) slots)
  catch_up_kept m i v slots kept stands at own =
      one_changed m i (record (slots i) { worker = v }) (record (m.worker i) { at = high_in n m }) slots kept
      (λ index found built. catches_up stood n (now_in n m).log index.def v (slots i) (m.worker i) stands (own index found) at (kept i index found built))

  -- ---- all online indexes

  pub given_kept : (m : Machine) (b : Bounds) (projected : ℕ → Projected) (slots : ℕ → Slot) → AreKept n m slots
      → ((i : ℕ) (index : Live) → numbered i (now_in n m).live ≡ Some index → ProjectedStands n index.def (now_in n m).log (projected i))
      → ((i : ℕ) → numbers_in (projected i) ≡ b) → AreKept n (given n b m) (given_slots n m projected slots)
  given_kept m b projected slots kept stands same i index found built =
      let Holds : Slot → Worker → Type 0 = IsKept n (now_in n m).log index.def in
      let old = kept i index found built in
      let by : (c : Bool) → Holds (cond c (with_piece (projected i) (slots i)) (slots i)) (cond c (sent b (m.worker i)) (m.worker i)) =
      λ c. elim c as (λ c. Holds (cond c (with_piece (projected i) (slots i)) (slots i)) (cond c (sent b (m.worker i)) (m.worker i))) [
        | true ↦ sends stood n (now_in n m).log index.def (projected i) b (slots i) (m.worker i) (stands i index found) (same i) old
        | false ↦ old
      ] in
      by (is_online_in n m i)
