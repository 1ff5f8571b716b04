-- The machine runs from the first line of the schedule to the end.
use Rattle.std.proofs.Common.{◌≡◌, ℕ, zero, suc, ◌*◌, ◌<◌, true, List, [], ◌∷◌, length, fold, Some, None, refl, sym, subst, arith}
use Rattle.std.specs.List.{AllByRecursion}
use Rattle.std.proofs.lemmas.Bool.{true≢false}
use Rattle.seq_vector.specs.Vectors.{zeros}
use Rattle.vb_store.specs.Mutations.{high_of}
use Rattle.n1ql_value.specs.declared.state.State.{State as Stage}
use Rattle.n1ql_value.specs.declared.state.State.TheVariants.{Deferred, Building, Online}
use Rattle.index_def.specs.LiveIndexes.{Live, named, numbered}
use Rattle.dcp_stream.specs.Streams.{unread}
use Rattle.scan_history.specs.declared.script.Script.{Script}
use Rattle.scan_history.specs.declared.turn.Turn.{Turn}
use Rattle.scan_history.specs.declared.turn.Turn.TheVariants.{Client, Project, Deliver, Lose, Publish, Rewind}
use Rattle.scan_history.specs.First.{commands_of, is_online}
use Rattle.scan_history.specs.Fold.{state_after}
use Rattle.scan_history.specs.Legal.{IsLegal}
use Rattle.scan_history.specs.Readings.{Read, AreRead}
use Rattle.scan_history.specs.Sound.{IsSound, IsTurn}
use Rattle.gsi_sched.specs.Machine.{Machine, first_machine, idle, now_in}
use Rattle.gsi_sched.specs.ScheduleLines.{has_worker, is_building, project_to, deliver, lose, publish_now, rewind_to}
use Rattle.gsi_sched.specs.ClientActions.{live_numbers, act}
use Rattle.gsi_sched.specs.Replay.{after_turn, after_actions, after_clients, after_schedule, at_the_end, history_of}
use Rattle.gsi_sched.specs.Running.{IsFlowing, IsServed, IsWorking, IsRunning}
use Rattle.gsi_sched.specs.inner.Below.{Below}
use Rattle.gsi_sched.proofs.LiveIndexes.{online_is_built, each_among, each_numbered}
use Rattle.gsi_sched.proofs.CatchUps.{Caught, caught_all}
use Rattle.gsi_sched.proofs.Turns.{project_keeps, project_to_keeps, deliver_keeps, lose_keeps, rewind_keeps, rewind_to_keeps, publish_keeps, on_index_keeps, named_works}
use Rattle.gsi_sched.proofs.ClientSteps.{act_keeps}

module _ (below : Below) (script : Script) where
  abbrev n : ℕ
  n = script.vbuckets

  flowing_first : IsFlowing (high_of n []) (unread n)
  flowing_first = subst (λ high. IsFlowing high (unread n)) (sym (below.high_none n)) (record {
    stream = record { size = refl; before_end = below.reflexive (zeros n) };
    size = refl;
    reached = below.reflexive (zeros n);
  })

  served_first : IsServed (high_of n []) (zeros n) (idle n)
  served_first = subst (λ high. IsServed high (zeros n) (idle n)) (sym (below.high_none n)) (record {
    size = refl;
    forth = below.reflexive (zeros n);
    reached = below.reflexive (zeros n);
    inbox = tt;
  })

  pub first_runs : IsRunning script (first_machine n)
  unfolding state_after
  first_runs = record {
    legal = λ read are. tt;
    serving = record { maint = flowing_first; initial = λ i. flowing_first; worker = λ i. served_first; fresh = λ i before. (refl, refl) };
    built = λ c. tt;
  }

  module _ (sound : IsSound script) (read : List ℕ → Read) (are : AreRead read) where
    pub some_batch : 0 < script.batch
    some_batch = omega (arith, sound.batch.0)

    building_has_worker : (state : Stage) → is_building state ≡ true → has_worker state ≡ true
    building_has_worker Deferred is = absurd (true≢false (sym is))
    building_has_worker Building is = refl
    building_has_worker Online is = refl

    pub building_works : (m : Machine) (name : List ℕ) (index : Live) → IsRunning script m → named name (now_in n m).live ≡ Some index → is_building index.state ≡ true
        → IsWorking (now_in n m).live index.number
    building_works m name index runs found building = named_works below script m name index runs found (building_has_worker index.state building)

    pub turn_keeps : (m : Machine) (turn : Turn) → IsTurn n script.clients turn → IsRunning script m → IsRunning script (after_turn read script m turn)
    turn_keeps m (Client c) is runs = act_keeps below script sound read are m c runs
    turn_keeps m (Project vb None) is runs = project_keeps below script m script.batch vb is some_batch runs
    turn_keeps m (Project vb (Some name)) is runs =
        on_index_keeps below script m name is_building (project_to n script.batch vb) runs
        (λ index found building. project_to_keeps below script m script.batch vb index.number (building_works m name index runs found building) is some_batch runs)
    turn_keeps m (Deliver name place) is runs =
        on_index_keeps below script m name has_worker (deliver n place) runs (λ index found has. deliver_keeps below script m place index.number (named_works below script m name index runs found has) runs)
    turn_keeps m (Lose name place) is runs =
        on_index_keeps below script m name has_worker (lose n place) runs (λ index found has. lose_keeps below script m place index.number (named_works below script m name index runs found has) runs)
    turn_keeps m (Publish name) is runs =
        on_index_keeps below script m name has_worker (publish_now n) runs
        (λ index found has. publish_keeps below script read are m index.number (named_works below script m name index runs found has) runs)
    turn_keeps m (Rewind to None) is runs = rewind_keeps below script m to is runs
    turn_keeps m (Rewind to (Some name)) is runs =
        on_index_keeps below script m name is_building (rewind_to to) runs (λ index found building. rewind_to_keeps below script m to index.number (building_works m name index runs found building) is runs)

    turns_keep : (turns : List Turn) (m : Machine) → AllByRecursion (IsTurn n script.clients) turns → IsRunning script m → IsRunning script (fold (after_turn read script) m turns)
    turns_keep [] m are_turns runs = runs
    turns_keep (turn ∷ turns) m are_turns runs = turns_keep turns (after_turn read script m turn) are_turns.1 (turn_keeps m turn are_turns.0 runs)

    pub schedule_runs : IsRunning script (after_schedule read script)
    schedule_runs = turns_keep script.schedule (first_machine n) sound.schedule first_runs

    pub actions_keep : (c actions : ℕ) (m : Machine) → IsRunning script m → IsRunning script (after_actions read script c actions m)
    actions_keep c zero m runs = runs
    actions_keep c (suc actions) m runs = actions_keep c actions (act read script c m) (act_keeps below script sound read are m c runs)

    pub clients_keep : (clients : ℕ) (m : Machine) → IsRunning script m → IsRunning script (after_clients read script clients m)
    clients_keep zero m runs = runs
    clients_keep (suc c) m runs = actions_keep c (3 * length (commands_of script c)) (after_clients read script c m) (clients_keep c m runs)

    pub online_work : (m : Machine) → IsRunning script m → AllByRecursion (IsWorking (now_in n m).live) (live_numbers (λ index. is_online index.state) (now_in n m))
    online_work m runs =
        let s = now_in n m in
        let holds = below.consistent script m.events runs.legal in
        each_among (λ (index : Live). is_online index.state) (λ (x : Live). numbered x.number s.live ≡ Some x) (IsWorking s.live)
        (λ index found online. (index, found, online_is_built index.state online)) s.live (each_numbered 0 (length s.defs) s.live holds.live)

    pub caught_at_the_end : (m : Machine) → IsRunning script m → Caught below script read are m (live_numbers (λ index. is_online index.state) (now_in n m)) (at_the_end read script m)
    caught_at_the_end m runs = caught_all below script read are (live_numbers (λ index. is_online index.state) (now_in n m)) m runs (online_work m runs)

    pub history_is_legal : IsLegal script (history_of read script)
    unfolding history_of
    history_is_legal =
        (caught_at_the_end (after_clients read script script.clients (after_schedule read script)) (clients_keep script.clients (after_schedule read script) schedule_runs)).0.legal
