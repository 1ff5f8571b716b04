-- After every list of steps there are slots that the machine has the numbers of.
use Rattle.std.proofs.Common.{◌≡◌, ℕ, zero, suc, ◌<◌, Bool, true, false, cond, List, [], ◌∷◌, length, fold, slice_get, Some, None, refl, sym, ap, ◌∙◌, subst, ◌*◌}
use Rattle.std.proofs.lemmas.Option.{same_Some}
use Rattle.std.specs.List.{AllByRecursion}
use Rattle.std.specs.Option.{option_map_or}
use Rattle.std.specs.Str.{bytes_eq}
use Rattle.std.proofs.lemmas.Bool.{cond_both, true≢false}
use Rattle.std.proofs.lemmas.Slice.Eq.{bytes_eq-Decides}
use Rattle.seq_vector.specs.Vectors.{IsCovered}
use Rattle.n1ql_value.specs.declared.state.State.{State as Stage}
use Rattle.index_def.specs.LiveIndexes.{Live, named, numbered}
use Rattle.dcp_stream.specs.Streams.{Bounds, next_bounds}
use Rattle.key_eval.specs.declared.projected.Projected.{Projected}
use Rattle.key_eval.specs.Stands.{ProjectedStands}
use Rattle.index_snapshot.specs.Workers.{first_worker}
use Rattle.scan_history.specs.declared.script.Script.{Script}
use Rattle.scan_history.specs.declared.turn.Turn.{Turn}
use Rattle.scan_history.specs.declared.turn.Turn.TheVariants.{Client, Project, Deliver, Lose, Publish, Rewind}
use Rattle.scan_history.specs.Events.{Event, publish}
use Rattle.scan_history.specs.First.{commands_of, is_online}
use Rattle.scan_history.specs.NextEvent.{next_event}
use Rattle.scan_history.specs.Readings.{Read, AreRead}
use Rattle.scan_history.specs.Sound.{IsSound, IsTurn}
use Rattle.gsi_sched.specs.Machine.{Worker, Machine, first_machine, now_in, high_in, published_in, with_event, with_worker, taken, unsent}
use Rattle.gsi_sched.specs.ScheduleLines.{has_worker, is_building, on_index, given, project, given_to, project_to, deliver, lose, publish_at, publish_now, rewind_to}
use Rattle.gsi_sched.specs.ClientActions.{awaited_by, catch_up, caught_up, live_numbers, going_online, merge, happened, act}
use Rattle.gsi_sched.specs.Replay.{after_turn, after_actions, at_the_end, after_clients, after_schedule}
use Rattle.gsi_sched.specs.Running.{IsWithinHigh, IsServed, IsWorking, IsRunning}
use Rattle.gsi_sched.specs.Slots.{Slot, numbers_in, after_deliveries, numbers_after_delivery, HasSlots as HasSlotsAmong}
use Rattle.gsi_sched.specs.inner.Below.{Below}
use Rattle.gsi_sched.specs.inner.Stood.{Stood}
use Rattle.gsi_sched.proofs.Served.{put_same}
use Rattle.gsi_sched.proofs.FirstEvents.{by_option}
use Rattle.gsi_sched.proofs.Steps.{event_happens, worker_changed}
use Rattle.gsi_sched.proofs.CatchUps.{published_new, caught_one}
use Rattle.gsi_sched.proofs.Turns.{passed_on, sized, named_works}
use Rattle.gsi_sched.proofs.ClientSteps.{awaited_work, next_is_own, no_publication, caught_for, next_may, act_keeps}
use Rattle.gsi_sched.proofs.WholeReplays.{turn_keeps, some_batch, online_work, first_runs, schedule_runs, clients_keep}
use Rattle.gsi_sched.proofs.KeptIndexes.{first_kept, event_keeps, deliver_kept, lose_kept, send_kept, catch_up_kept, given_kept}
use Rattle.gsi_sched.proofs.Deliveries.{projected_for, projected_stands, rest_of, rest_brings_up, brought_up}

module _ (below : Below) (stood : Stood) (script : Script) (sound : IsSound script) (read : List ℕ → Read) (are : AreRead read) where
  abbrev n : ℕ
  n = script.vbuckets

  abbrev HasSlots : Machine → Type 0
  HasSlots m = HasSlotsAmong n m

  pub first_has : HasSlots (first_machine n)
  first_has =
      let none : ℕ → Slot = λ i. record { worker = first_worker i (record { name = []; keys = []; filter = []; primary = false }) n; inbox = [] } in
      (none, first_kept below stood script none)

  event_has : (m : Machine) (e : Event) → IsRunning script m → IsRunning script (with_event e m) → HasSlots m → HasSlots (with_event e m)
  event_has m e runs runs_on has = (_, event_keeps below stood script m e has.0 runs runs_on has.1)

  publish_has : (m : Machine) (i : ℕ) (at : List ℕ) → IsRunning script m → IsWorking (now_in n m).live i → IsCovered (published_in n i m) at
      → length at ≡ length (high_in n m) → IsCovered at (high_in n m) → IsCovered at (m.worker i).at → HasSlots m → HasSlots (publish_at n at i m)
  publish_has m i at runs works forth size reached worked has =
      cond_both (bytes_eq at (published_in n i m)) m (with_event (publish i at) m) HasSlots (λ same. has)
      (λ other.
      let then = published_new below script read are m i at runs works forth size reached worked
      (λ same. true≢false (sym ((bytes_eq-Decides at (published_in n i m)).1 same) ∙ other)) in
      event_has m (publish i at) runs then.0 has)

  -- ---- pieces

  abbrev projected_by : Machine → Bounds → ℕ → Projected
  projected_by m b i =
      option_map_or (λ (index : Live). projected_for i index.def (now_in n m).log b) (numbered i (now_in n m).live)
      (record { index = i; vb = b.vb; from = b.from; to = b.to; end = b.end; versions = [] })

  has_its_numbers : (m : Machine) (b : Bounds) (i : ℕ) → numbers_in (projected_by m b i) ≡ b
  has_its_numbers m b i =
      by_option (λ p. numbers_in p ≡ b) (λ (index : Live). projected_for i index.def (now_in n m).log b) (record { index = i; vb = b.vb; from = b.from; to = b.to; end = b.end; versions = [] })
      (numbered i (now_in n m).live) (λ index found. refl) (λ none. refl)

  its_own_stands : (m : Machine) (b : Bounds) → IsRunning script m → IsWithinHigh (high_in n m) b → (i : ℕ) (index : Live) → numbered i (now_in n m).live ≡ Some index
      → ProjectedStands n index.def (now_in n m).log (projected_by m b i)
  its_own_stands m b runs is i index found =
      let log_numbered = (below.consistent script m.events runs.legal).log in
      subst (λ o. ProjectedStands n index.def (now_in n m).log (option_map_or (λ (x : Live). projected_for i x.def (now_in n m).log b) o (record { index = i; vb = b.vb; from = b.from; to = b.to; end = b.end; versions = [] })))
      (sym found) (projected_stands below n (now_in n m).log log_numbered i index.def b is)

  project_has : (m : Machine) (most vb : ℕ) → vb < n → 0 < most → IsRunning script m → HasSlots m → HasSlots (project n most vb m)
  project_has m most vb there some runs has =
      by_option HasSlots (λ b. given n b m) m (next_bounds (high_in n m) most vb m.maint)
      (λ b is.
      let both = passed_on below script (high_in n m) most vb m.maint b (sized below script m) there some runs.serving.maint is in
      (_, given_kept below stood script m b (projected_by m b) has.0 has.1 (its_own_stands m b runs both.1) (has_its_numbers m b)))
      (λ none. has)

  project_to_has : (m : Machine) (most vb i : ℕ) → vb < n → 0 < most → IsRunning script m → HasSlots m → HasSlots (project_to n most vb i m)
  project_to_has m most vb i there some runs has =
      by_option HasSlots (λ b. given_to n i b m) m (next_bounds (high_in n m) most vb (m.initial i))
      (λ b is.
      let both = passed_on below script (high_in n m) most vb (m.initial i) b (sized below script m) there some (runs.serving.initial i) is in
      (_, send_kept below stood script m i b (projected_by m b i) has.0 has.1 (its_own_stands m b runs both.1 i) (has_its_numbers m b i)))
      (λ none. has)

  deliver_has : (m : Machine) (place i : ℕ) → HasSlots m → HasSlots (deliver n place i m)
  deliver_has m place i has =
      let w = m.worker i in
      by_option HasSlots (λ b. with_worker i (taken b (unsent place w)) m) m (slice_get w.inbox place)
      (λ b there.
      let delivers : numbers_after_delivery place w ≡ taken b (unsent place w) = ap (λ o. option_map_or (λ b. taken b (unsent place w)) o w) there in
      subst (λ x. HasSlots (with_worker i x m)) delivers (_, deliver_kept below stood script m place i has.0 has.1))
      (λ none. has)

  lose_has : (m : Machine) (place i : ℕ) → HasSlots m → HasSlots (lose n place i m)
  lose_has m place i has = (_, lose_kept below stood script m place i has.0 has.1)

  -- ---- catching up

  catch_up_has : (m : Machine) (i : ℕ) → IsRunning script m → IsWorking (now_in n m).live i → HasSlots m → HasSlots (catch_up n m i)
  catch_up_has m i runs works has =
      let s = now_in n m in
      let high = high_in n m in
      let old = has.1 i works.0 works.1 works.2 in
      let w = (has.0 i).worker in
      let up = brought_up below stood n s.log w (rest_of below stood n s.log w n) old.worker (rest_brings_up below stood n s.log w old.worker) in
      let v = after_deliveries (rest_of below stood n s.log w n) w in
      let moved = with_worker i (record (m.worker i) { at = high }) m in
      let slots = catch_up_kept below stood script m i v has.0 has.1 up.0 up.2
      (λ index found. up.1 ∙ old.own ∙ ap (λ (x : Live). x.def) (same_Some works.0 index (sym works.1 ∙ found))) in
      let reached = (below.consistent script m.events runs.legal).published i in
      let served : IsServed high (published_in n i m) (record (m.worker i) { at = high }) =
      record { size = refl; forth = reached.below; reached = below.reflexive high; inbox = (runs.serving.worker i).inbox } in
      publish_has moved i high (worker_changed below script m i (record (m.worker i) { at = high }) works runs served) works reached.below refl (below.reflexive high)
      (subst (λ (x : Worker). IsCovered high x.at) (sym (put_same i (record (m.worker i) { at = high }) m.worker)) (below.reflexive high))
      (_, slots)

  caught_up_has : (is : List ℕ) (m : Machine) → IsRunning script m → AllByRecursion (IsWorking (now_in n m).live) is → HasSlots m → HasSlots (caught_up n is m)
  caught_up_has [] m runs works has = has
  caught_up_has (i ∷ is) m runs works has =
      let one = caught_one below script read are m i runs works.0 in
      caught_up_has is (catch_up n m i) one.0 (subst (λ live. AllByRecursion (IsWorking live) is) (sym one.1.live) works.1) (catch_up_has m i runs works.0 has)

  -- ---- actions

  merges_have : (is : List ℕ) (m : Machine) → HasSlots m → HasSlots (fold merge m is)
  merges_have [] m has = has
  merges_have (i ∷ is) m has = merges_have is (merge m i) has

  pub act_has : (m : Machine) (c : ℕ) → IsRunning script m → HasSlots m → HasSlots (act read script c m)
  act_has m c runs has =
      let is = awaited_by read script c m in
      let t = caught_up n is m in
      let caught = caught_for below script sound read are m c runs in
      let works = awaited_work below script read m c runs in
      let then = caught_up_has is m runs works has in
      by_option HasSlots (happened t) t (next_event read script (now_in n t) c)
      (λ e next.
      let own = next_is_own read script (now_in n t) c e next in
      let runs_on = event_happens below script read t e are caught.0 (next_may below script sound read are m t c e runs caught next)
      (λ i. subst (λ v. IsCovered v (t.worker i).at) (sym (no_publication (now_in n t).published c e i own)) (caught.0.serving.worker i).forth) in
      merges_have (going_online e) (with_event e t) (event_has t e caught.0 runs_on then))
      (λ none. then)

  -- ---- the whole

  on_index_has : (m : Machine) (name : List ℕ) (needed : Stage → Bool) (does : ℕ → Machine → Machine) → HasSlots m
      → ((index : Live) → named name (now_in n m).live ≡ Some index → needed index.state ≡ true → HasSlots (does index.number m)) → HasSlots (on_index n name needed does m)
  on_index_has m name needed does has keeps =
      by_option HasSlots (λ (index : Live). cond (needed index.state) (does index.number m) m) m (named name (now_in n m).live)
      (λ index found. cond_both (needed index.state) (does index.number m) m HasSlots (λ is. keeps index found is) (λ other. has))
      (λ none. has)

  pub turn_has : (m : Machine) (turn : Turn) → IsTurn n script.clients turn → IsRunning script m → HasSlots m → HasSlots (after_turn read script m turn)
  turn_has m (Client c) is runs has = act_has m c runs has
  turn_has m (Project vb None) is runs has = project_has m script.batch vb is (some_batch below script sound read are) runs has
  turn_has m (Project vb (Some name)) is runs has =
      on_index_has m name is_building (project_to n script.batch vb) has
      (λ index found building. project_to_has m script.batch vb index.number is (some_batch below script sound read are) runs has)
  turn_has m (Deliver name place) is runs has = on_index_has m name has_worker (deliver n place) has (λ index found so. deliver_has m place index.number has)
  turn_has m (Lose name place) is runs has = on_index_has m name has_worker (lose n place) has (λ index found so. lose_has m place index.number has)
  turn_has m (Publish name) is runs has =
      on_index_has m name has_worker (publish_now n) has
      (λ index found so.
      let i = index.number in
      let was = runs.serving.worker i in
      publish_has m i (m.worker i).at runs (named_works below script m name index runs found so) was.forth was.size was.reached (below.reflexive (m.worker i).at) has)
  turn_has m (Rewind to None) is runs has = has
  turn_has m (Rewind to (Some name)) is runs has = on_index_has m name is_building (rewind_to to) has (λ index found building. has)

  pub turns_have : (turns : List Turn) (m : Machine) → AllByRecursion (IsTurn n script.clients) turns → IsRunning script m → HasSlots m → HasSlots (fold (after_turn read script) m turns)
  turns_have [] m are_turns runs has = has
  turns_have (turn ∷ turns) m are_turns runs has =
      turns_have turns (after_turn read script m turn) are_turns.1 (turn_keeps below script sound read are m turn are_turns.0 runs) (turn_has m turn are_turns.0 runs has)

  pub actions_have : (c actions : ℕ) (m : Machine) → IsRunning script m → HasSlots m → HasSlots (after_actions read script c actions m)
  actions_have c zero m runs has = has
  actions_have c (suc actions) m runs has = actions_have c actions (act read script c m) (act_keeps below script sound read are m c runs) (act_has m c runs has)

  clients_have : (clients : ℕ) (m : Machine) → IsRunning script m → HasSlots m → HasSlots (after_clients read script clients m)
  clients_have zero m runs has = has
  clients_have (suc c) m runs has =
      actions_have c (3 * length (commands_of script c)) (after_clients read script c m) (clients_keep below script sound read are c m runs) (clients_have c m runs has)

  pub end_has : (m : Machine) → IsRunning script m → HasSlots m → HasSlots (at_the_end read script m)
  end_has m runs has =
      caught_up_has (live_numbers (λ (index : Live). is_online index.state) (now_in n m)) m runs (online_work below script sound read are m runs) has

  -- the whole replay
  pub replay_has : HasSlots (at_the_end read script (after_clients read script script.clients (after_schedule read script)))
  replay_has =
      let runs = schedule_runs below script sound read are in
      let scheduled = turns_have script.schedule (first_machine n) sound.schedule (first_runs below script) first_has in
      end_has (after_clients read script script.clients (after_schedule read script)) (clients_keep below script sound read are script.clients (after_schedule read script) runs)
      (clients_have script.clients (after_schedule read script) runs scheduled)
