-- An action of a client keeps the machine running.
use Rattle.std.proofs.Common.{◌≡◌, ℕ, Bool, List, [], ◌∷◌, length, fold, Some, refl, sym, ap, ◌∙◌, subst}
use Rattle.std.specs.List.{AllByRecursion}
use Rattle.std.proofs.lemmas.Option.{same_Some}
use Rattle.std.proofs.lemmas.Bool.{cond_both}
use Rattle.seq_vector.specs.Vectors.{IsCovered, covers}
use Rattle.vb_store.specs.Mutations.{high_of}
use Rattle.index_def.specs.LiveIndexes.{Live, numbered}
use Rattle.scan_history.specs.declared.script.Script.{Script}
use Rattle.scan_history.specs.declared.why.Why.TheVariants.{Plain}
use Rattle.scan_history.specs.Events.{Event, publish, answer, pick, fetch, not_yet, refuse, client_of}
use Rattle.scan_history.specs.First.{command_at, first_of}
use Rattle.scan_history.specs.Fold.{Opened, nothing, work, started, picked, Client as Part, State, published_step}
use Rattle.scan_history.specs.Legal.{live_among, waits, is_covered_by_index, MayFollow}
use Rattle.scan_history.specs.NextEvent.{end_of_work, answered, decided, next_of_open, next_event}
use Rattle.scan_history.specs.Readings.{Read, AreRead}
use Rattle.scan_history.specs.Refusals as code
use Rattle.scan_history.specs.Sound.{IsSound}
use Rattle.gsi_sched.specs.Machine.{Machine, now_in, with_event}
use Rattle.gsi_sched.specs.ClientActions.{awaited_by, caught_up, going_online, merge, happened, act}
use Rattle.gsi_sched.specs.Running.{IsWorking, IsRunning}
use Rattle.gsi_sched.specs.inner.Below.{Below}
use Rattle.gsi_sched.proofs.FirstEvents.{by_option, by_made, by_command}
use Rattle.gsi_sched.proofs.Steps.{event_happens}
use Rattle.gsi_sched.proofs.CatchUps.{Caught, caught_all}
use Rattle.gsi_sched.proofs.NextEvents.{awaited_works, follows}
use Rattle.gsi_sched.proofs.Turns.{rewind_keeps}

-- ---- the next event is the client's

abbrev IsOf : ℕ → Event → Type 0
IsOf c e = client_of e ≡ Some c

end_is_own : (c k : ℕ) (is : List ℕ) → IsOf c (end_of_work c k is)
end_is_own c k [] = refl
end_is_own c k (i ∷ is) = refl

module _ (read : List ℕ → Read) (script : Script) (s : State) (c : ℕ) where
  abbrev k : ℕ
  k = (s.client c).next

  answered_is_own : (at : List ℕ) → IsOf c (answered script c k at)
  answered_is_own at = cond_both (is_covered_by_index (command_at script c k)) (answer c k at) (pick c k at) (IsOf c) (λ yes. refl) (λ no. refl)

  decided_is_own : (demand board : List ℕ) → IsOf c (decided script c k demand board)
  decided_is_own demand board = cond_both (covers board demand) (answered script c k board) (not_yet c k board) (IsOf c) (λ yes. answered_is_own board) (λ no. refl)

  own_of_open : (o : Opened) (e : Event) → next_of_open read script s c o ≡ Some e → IsOf c e
  own_of_open nothing e is =
      by_made (IsOf c) (first_of read script s c k) (command_at script c k) e
      (λ asked there.
      by_command read script s c k (IsOf c) (λ what. refl) (λ i deferred def. refl) (λ names deferred. refl) (λ name index is. refl)
      (λ name index demand found online. refl) (λ number why. refl) asked)
      is
  own_of_open (work numbers since) e is = subst (IsOf c) (same_Some (end_of_work c k (live_among numbers s)) e is) (end_is_own c k (live_among numbers s))
  own_of_open (started i demand since) e is =
      subst (IsOf c) (same_Some _ e is)
      (by_option (IsOf c) (λ (index : Live). decided script c k demand (s.published i)) (refuse c k code.dropped Plain) (numbered i s.live)
      (λ index found. decided_is_own demand (s.published i)) (λ none. refl))
  own_of_open (picked i at) e is = subst (IsOf c) (same_Some (fetch c k at (high_of script.vbuckets s.log)) e is) refl

  pub next_is_own : (e : Event) → next_event read script s c ≡ Some e → IsOf c e
  next_is_own e is = own_of_open (s.client c).opened e is

-- an event of a client publishes nothing
pub no_publication : (published : ℕ → List ℕ) (c : ℕ) (e : Event) (i : ℕ) → IsOf c e → published_step published e i ≡ published i
no_publication published c (publish j at) i own = absurd cc
no_publication published c _ i own = refl

-- what a client waits for works
pub awaited_work : (below : Below) (script : Script) (read : List ℕ → Read) (m : Machine) (c : ℕ) → IsRunning script m
    → AllByRecursion (IsWorking (now_in script.vbuckets m).live) (awaited_by read script c m)
awaited_work below script read m c runs =
    let s = now_in script.vbuckets m in
    awaited_works below script (waits (command_at script c (s.client c).next)) s (s.client c).opened (below.consistent script m.events runs.legal) (runs.built c)

module _ (below : Below) (script : Script) (sound : IsSound script) (read : List ℕ → Read) (are : AreRead read) where
  abbrev n : ℕ
  n = script.vbuckets

  worker_sized : (m : Machine) (i : ℕ) → IsRunning script m → length (m.worker i).at ≡ n
  worker_sized m i runs = (runs.serving.worker i).size ∙ below.high_size n (now_in n m).log

  pub merges_keep : (is : List ℕ) (m : Machine) → IsRunning script m → IsRunning script (fold merge m is)
  merges_keep [] m runs = runs
  merges_keep (i ∷ is) m runs = merges_keep is (merge m i) (rewind_keeps below script m (m.worker i).at (worker_sized m i runs) runs)

  pub happened_keeps : (m : Machine) (c : ℕ) (e : Event) → IsRunning script m → client_of e ≡ Some c → MayFollow read script (now_in n m) e → IsRunning script (happened m e)
  happened_keeps m c e runs own may =
      merges_keep (going_online e) (with_event e m)
      (event_happens below script read m e are runs may
      (λ i. subst (λ v. IsCovered v (m.worker i).at) (sym (no_publication (now_in n m).published c e i own)) (runs.serving.worker i).forth))

  -- once what the client waits for is caught up
  abbrev waiting_of : Machine → ℕ → Bool
  waiting_of m c = waits (command_at script c ((now_in n m).client c).next)

  abbrev open_of : Machine → ℕ → Opened
  open_of m c = ((now_in n m).client c).opened

  pub caught_for : (m : Machine) (c : ℕ) → IsRunning script m → Caught below script read are m (awaited_by read script c m) (caught_up n (awaited_by read script c m) m)
  caught_for m c runs =
      caught_all below script read are (awaited_by read script c m) m runs (awaited_work below script read m c runs)

  pub next_may : (m t : Machine) (c : ℕ) (e : Event) → IsRunning script m → Caught below script read are m (awaited_by read script c m) t
      → next_event read script (now_in n t) c ≡ Some e → MayFollow read script (now_in n t) e
  next_may m t c e runs caught is =
      let s = now_in n m in
      let u = now_in n t in
      let quiet = caught.1 in
      let holds = below.consistent script m.events runs.legal in
      let same : u.client c ≡ s.client c = ap (λ (f : ℕ → Part). f c) quiet.client in
      let opens : (u.client c).opened ≡ open_of m c = ap (λ (p : Part). p.opened) same in
      follows below script s u holds quiet (waiting_of m c) read c
      (ap (λ (p : Part). waits (command_at script c p.next)) same) (open_of m c) e opens (holds.client c).opened
      (λ i demand since so. below.demand_size script m.events c i demand since sound runs.legal so ∙ sym (below.high_size n s.log))
      caught.2
      (subst (λ o. next_of_open read script u c o ≡ Some e) opens is)

  pub act_keeps : (m : Machine) (c : ℕ) → IsRunning script m → IsRunning script (act read script c m)
  act_keeps m c runs =
      let t = caught_up n (awaited_by read script c m) m in
      let caught = caught_for m c runs in
      by_option (IsRunning script) (happened t) t (next_event read script (now_in n t) c)
      (λ e is. happened_keeps t c e caught.0 (next_is_own read script (now_in n t) c e is) (next_may m t c e runs caught is))
      (λ none. caught.0)
