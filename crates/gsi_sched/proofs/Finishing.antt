-- Each action of a client brings its commands forth, until all of them are closed.
use Rattle.std.proofs.Common.{◌≡◌, ◌≢◌, ◌⊎◌, ℕ, zero, suc, ◌+◌, ◌*◌, ◌<◌, ◌≤◌, true, false, ◌==◌, List, [], ◌∷◌, length, fold, Option, Some, None, refl, sym, ap, ◌∙◌, subst, inl, inr, arith}
use Rattle.std.proofs.lemmas.Option.{same_Some}
use Rattle.std.specs.List.{AllByRecursion}
use Rattle.std.specs.Option.{option_map, option_map_or}
use Rattle.std.proofs.lemmas.Bool.{cases_eq, cond_both, cond-true, cond-false}
use Rattle.std.proofs.lemmas.Bool.Decides.{nat_tests}
use Rattle.seq_vector.specs.Vectors.{covers}
use Rattle.vb_store.specs.Mutations.{high_of}
use Rattle.n1ql_value.specs.declared.state.State.{State as Stage}
use Rattle.n1ql_value.specs.declared.state.State.TheVariants.{Online}
use Rattle.index_def.specs.LiveIndexes.{Live, numbered}
use Rattle.scan_history.specs.declared.script.Script.{Script}
use Rattle.scan_history.specs.declared.why.Why.TheVariants.{Plain}
use Rattle.scan_history.specs.Events.{Event, answer, pick, fetch, not_yet, refuse, client_of}
use Rattle.scan_history.specs.First.{commands_of, command_at, is_online, first_of, first_action}
use Rattle.scan_history.specs.Fold.{Opened, nothing, work, started, picked, Client as Part, State, is_of, own_step, client_step, state_after}
use Rattle.scan_history.specs.Legal.{live_among, is_covered_by_index, IsFinished}
use Rattle.scan_history.specs.NextEvent.{end_of_work, answered, decided, next_of_open, next_event}
use Rattle.scan_history.specs.Readings.{Read, AreRead}
use Rattle.scan_history.specs.Refusals as code
use Rattle.scan_history.specs.Sound.{IsSound}
use Rattle.gsi_sched.specs.Machine.{Machine, now_in, high_in, published_in, with_event}
use Rattle.gsi_sched.specs.ClientActions.{live_numbers, awaited_by, caught_up, merge, going_online, happened, act}
use Rattle.gsi_sched.specs.Replay.{after_actions, after_clients, after_schedule, at_the_end, history_of}
use Rattle.gsi_sched.specs.Running.{IsRunning}
use Rattle.gsi_sched.specs.inner.Below.{Below}
use Rattle.gsi_sched.proofs.Served.{slice_past, each_weaker}
use Rattle.gsi_sched.proofs.LiveIndexes.{among, each_numbered}
use Rattle.gsi_sched.proofs.FirstEvents.{by_option, by_made, by_command}
use Rattle.gsi_sched.proofs.CatchUps.{Caught}
use Rattle.gsi_sched.proofs.ClientSteps.{next_is_own, caught_for, act_keeps}
use Rattle.gsi_sched.proofs.WholeReplays.{schedule_runs, clients_keep, caught_at_the_end}

-- how far a command has come that is open, and all of a client's: three a command that is closed
abbrev stage : Opened → ℕ
stage nothing = 0
stage (work numbers since) = 1
stage (started i demand since) = 1
stage (picked i at) = 2

abbrev progress : Part → ℕ
progress part = 3 * part.next + stage part.opened

stage_below : (o : Opened) → stage o < 3
stage_below nothing = omega arith
stage_below (work numbers since) = omega arith
stage_below (started i demand since) = omega arith
stage_below (picked i at) = omega arith

-- ---- the next event brings its client forth

module _ (read : List ℕ → Read) (script : Script) (s : State) (c : ℕ) where
  abbrev part : Part
  part = s.client c

  abbrev high : List ℕ
  high = high_of script.vbuckets s.log

  abbrev Moves : ℕ → Event → Type 0
  Moves from e = 3 * part.next + from < progress (own_step high part e)

  first_moves : (e : Event) → first_action read script s c ≡ Some e → Moves 0 e
  first_moves e is =
      by_made (Moves 0) (first_of read script s c part.next) (command_at script c part.next) e
      (λ asked there.
      by_command read script s c part.next (Moves 0) (λ what. omega arith)
      (λ i deferred def. cond_both deferred _ _ (λ (p : Part). 3 * part.next + 0 < progress p) (λ yes. omega arith) (λ no. omega arith))
      (λ names deferred. omega arith) (λ name index is. omega arith) (λ name index demand found online. omega arith) (λ number why. omega arith) asked)
      is

  end_moves : (is : List ℕ) → Moves 1 (end_of_work c part.next is)
  end_moves [] = omega arith
  end_moves (i ∷ is) = omega arith

  decided_moves : (demand board : List ℕ) → Moves 1 (decided script c part.next demand board)
  decided_moves demand board =
      cond_both (covers board demand) (answered script c part.next board) (not_yet c part.next board) (Moves 1)
      (λ covered. cond_both (is_covered_by_index (command_at script c part.next)) (answer c part.next board) (pick c part.next board) (Moves 1) (λ yes. omega arith) (λ no. omega arith))
      (λ short. omega arith)

  moves_on : (o : Opened) (e : Event) → next_of_open read script s c o ≡ Some e → Moves (stage o) e
  moves_on nothing e is = first_moves e is
  moves_on (work numbers since) e is = subst (Moves 1) (same_Some (end_of_work c part.next (live_among numbers s)) e is) (end_moves (live_among numbers s))
  moves_on (started i demand since) e is =
      subst (Moves 1) (same_Some _ e is)
      (by_option (Moves 1) (λ (index : Live). decided script c part.next demand (s.published i)) (refuse c part.next code.dropped Plain) (numbered i s.live)
      (λ index found. decided_moves demand (s.published i)) (λ none. omega arith))
  moves_on (picked i at) e is = subst (Moves 2) (same_Some (fetch c part.next at high) e is) (omega arith)

  pub next_moves : (e : Event) → next_event read script s c ≡ Some e → progress part < progress (own_step high part e)
  next_moves e is = moves_on part.opened e is

  -- where it has none, nothing is open, and no command is left
  no_map : {A B : Type 0} (f : A → B) (o : Option A) → option_map f o ≡ None → o ≡ None
  no_map f None is = refl
  no_map f (Some x) is = absurd cc

  none_left : (o : Opened) → next_of_open read script s c o ≡ None → length (commands_of script c) ≤ part.next
  none_left nothing is = slice_past (commands_of script c) part.next (no_map (first_of read script s c part.next) (command_at script c part.next) is)
  none_left (work numbers since) is = absurd cc
  none_left (started i demand since) is = absurd cc
  none_left (picked i at) is = absurd cc

  pub ends_with_none : next_event read script s c ≡ None → 3 * length (commands_of script c) ≤ progress part
  ends_with_none is = let end = none_left part.opened is in omega (arith, end)

-- ---- actions

module _ (below : Below) (script : Script) (sound : IsSound script) (read : List ℕ → Read) (are : AreRead read) where
  abbrev n : ℕ
  n = script.vbuckets

  abbrev part_in : Machine → ℕ → Part
  part_in m c = (now_in n m).client c

  abbrev all_of : ℕ → ℕ
  all_of c = 3 * length (commands_of script c)

  merges_add_nothing : (is : List ℕ) (m : Machine) → (fold merge m is).events ≡ m.events
  merges_add_nothing [] m = refl
  merges_add_nothing (i ∷ is) m = merges_add_nothing is (merge m i)

  -- a client's part after an event
  part_then : (m : Machine) (e : Event) (c : ℕ) → part_in (happened m e) c ≡ client_step (high_in n m) c (part_in m c) e
  part_then m e c =
      ap (λ events. (state_after n events).client c) (merges_add_nothing (going_online e) (with_event e m))
      ∙ ap (λ (t : State). t.client c) (below.one_more n m.events e)

  is_own : (c : ℕ) (e : Event) → client_of e ≡ Some c → is_of c e ≡ true
  is_own c e own = ap (λ o. option_map_or (λ d. d == c) o false) own ∙ grind (arith, nat_tests)

  is_other : (c d : ℕ) (e : Event) → d ≢ c → client_of e ≡ Some c → is_of d e ≡ false
  is_other c d e other own = ap (λ o. option_map_or (λ x. x == d) o false) own ∙ grind (arith, nat_tests, other)

  caught_part : (m : Machine) (c d : ℕ) → IsRunning script m → part_in (caught_up n (awaited_by read script c m) m) d ≡ part_in m d
  caught_part m c d runs = ap (λ (f : ℕ → Part). f d) (caught_for below script sound read are m c runs).1.client

  -- an action of a client leaves the others
  pub act_leaves : (m : Machine) (c d : ℕ) → d ≢ c → IsRunning script m → part_in (act read script c m) d ≡ part_in m d
  act_leaves m c d other runs =
      let t = caught_up n (awaited_by read script c m) m in
      by_option (λ (u : Machine). part_in u d ≡ part_in m d) (happened t) t (next_event read script (now_in n t) c)
      (λ e is.
      part_then t e d
      ∙ (cond-false (is_of d e) (own_step (high_in n t) (part_in t d) e) (part_in t d) (is_other c d e other (next_is_own read script (now_in n t) c e is))
      ∙ caught_part m c d runs))
      (λ none. caught_part m c d runs)

  -- and brings it forth, where it has something left
  act_moves : (m : Machine) (c : ℕ) → IsRunning script m → (progress (part_in m c) < progress (part_in (act read script c m) c)) ⊎ (all_of c ≤ progress (part_in (act read script c m) c))
  act_moves m c runs =
      let t = caught_up n (awaited_by read script c m) m in
      let same = caught_part m c c runs in
      by_option (λ (u : Machine). (progress (part_in m c) < progress (part_in u c)) ⊎ (all_of c ≤ progress (part_in u c))) (happened t) t (next_event read script (now_in n t) c)
      (λ e is.
      let moved = next_moves read script (now_in n t) c e is in
      let then : part_in (happened t e) c ≡ own_step (high_in n t) (part_in t c) e =
      part_then t e c ∙ cond-true (is_of c e) (own_step (high_in n t) (part_in t c) e) (part_in t c) (is_own c e (next_is_own read script (now_in n t) c e is)) in
      inl (subst (λ (p : Part). progress (part_in m c) < progress p) (sym then)
      (subst (λ (p : Part). progress p < progress (own_step (high_in n t) (part_in t c) e)) same moved)))
      (λ none. inr (ends_with_none read script (now_in n t) c none))

  actions_move : (c actions : ℕ) (m : Machine) → IsRunning script m → all_of c ≤ progress (part_in m c) + actions → all_of c ≤ progress (part_in (after_actions read script c actions m) c)
  actions_move c zero m runs enough = omega (arith, enough)
  actions_move c (suc actions) m runs enough =
      let then = act read script c m in
      actions_move c actions then (act_keeps below script sound read are m c runs)
      (elim (act_moves m c runs) [
        | inl more ↦ omega (arith, more, enough)
        | inr all ↦ omega (arith, all)
      ])

  actions_leave : (c actions d : ℕ) (m : Machine) → d ≢ c → IsRunning script m → part_in (after_actions read script c actions m) d ≡ part_in m d
  actions_leave c zero d m other runs = refl
  actions_leave c (suc actions) d m other runs =
      actions_leave c actions d (act read script c m) other (act_keeps below script sound read are m c runs) ∙ act_leaves m c d other runs

  clients_end : (clients : ℕ) (m : Machine) → IsRunning script m → (d : ℕ) → d < clients → all_of d ≤ progress (part_in (after_clients read script clients m) d)
  clients_end zero m runs d low = absurd (omega (arith, low))
  clients_end (suc c) m runs d low =
      let before = after_clients read script c m in
      let runs_before = clients_keep below script sound read are c m runs in
      elim (cases_eq d c) [
        | inl is ↦ subst (λ k. all_of k ≤ progress (part_in (after_actions read script c (all_of c) before) k)) (sym is) (actions_move c (all_of c) before runs_before (omega arith))
        | inr other ↦
            subst (λ (p : Part). all_of d ≤ progress p) (sym (actions_leave c (all_of c) d before other runs_before))
            (clients_end c m runs d (omega (arith, low, other)))
      ]

  -- ---- the end

  closed_by : (o : Opened) (next commands : ℕ) → next ≤ commands → (o ≢ nothing → next < commands) → 3 * commands ≤ 3 * next + stage o → (o ≡ nothing) × (next ≡ commands)
  closed_by nothing next commands low more enough = (refl, omega (arith, low, enough))
  closed_by (work numbers since) next commands low more enough = let some = more (λ e. absurd cc) in absurd (omega (arith, some, enough))
  closed_by (started i demand since) next commands low more enough = let some = more (λ e. absurd cc) in absurd (omega (arith, some, enough))
  closed_by (picked i at) next commands low more enough = let some = more (λ e. absurd cc) in absurd (omega (arith, some, enough))

  abbrev acted : Machine
  acted = after_clients read script script.clients (after_schedule read script)

  abbrev ended : Machine
  ended = at_the_end read script acted

  acted_runs : IsRunning script acted
  acted_runs = clients_keep below script sound read are script.clients (after_schedule read script) (schedule_runs below script sound read are)

  caught : Caught below script read are acted (live_numbers (λ index. is_online index.state) (now_in n acted)) ended
  caught = caught_at_the_end below script sound read are acted acted_runs

  all_closed : (c : ℕ) → c < script.clients → ((part_in ended c).opened ≡ nothing) × ((part_in ended c).next ≡ length (commands_of script c))
  all_closed c low =
      let same : part_in ended c ≡ part_in acted c = ap (λ (f : ℕ → Part). f c) caught.1.client in
      let within = below.within script ended.events c caught.0.legal in
      closed_by (part_in ended c).opened (part_in ended c).next (length (commands_of script c)) within.closed within.opened
      (subst (λ (p : Part). all_of c ≤ progress p) (sym same) (clients_end script.clients (after_schedule read script) (schedule_runs below script sound read are) c low))

  online_test : (state : Stage) → state ≡ Online → is_online state ≡ true
  online_test state is = ap is_online is

  all_published : AllByRecursion (λ (index : Live). index.state ≡ Online → published_in n index.number ended ≡ high_in n ended) (now_in n ended).live
  all_published =
      let s = now_in n acted in
      let holds = below.consistent script acted.events acted_runs.legal in
      let high_same : high_in n ended ≡ high_in n acted = ap (high_of n) caught.1.log in
      subst (AllByRecursion (λ (index : Live). index.state ≡ Online → published_in n index.number ended ≡ high_in n ended)) (sym caught.1.live)
      (each_weaker (λ (x : Live). numbered x.number s.live ≡ Some x) (λ (index : Live). index.state ≡ Online → published_in n index.number ended ≡ high_in n ended)
      (λ index found is. caught.2 index.number (among (λ (x : Live). is_online x.state) index.number s.live index found (online_test index.state is)) ∙ sym high_same)
      s.live (each_numbered 0 (length s.defs) s.live holds.live))

  pub history_is_finished : IsFinished script (state_after n (history_of read script))
  unfolding history_of
  history_is_finished = record { closed = λ c low. (all_closed c low).0; done = λ c low. (all_closed c low).1; published = all_published }
