-- Publications, and indexes that are caught up.
use Rattle.std.proofs.Common.{◌≡◌, ◌≢◌, ℕ, true, ◌==◌, List, [], ◌∷◌, length, Option, MatchOption, refl, sym, ap, ◌∙◌, subst, inl, inr}
use Rattle.std.specs.List.{AllByRecursion, list_any}
use Rattle.std.specs.Str.{bytes_eq}
use Rattle.std.proofs.lemmas.Bool.{cond_both, or_cases, true≢false}
use Rattle.std.proofs.lemmas.Slice.Eq.{bytes_eq-Decides}
use Rattle.seq_vector.specs.Vectors.{IsCovered}
use Rattle.vb_store.specs.Mutations.{high_of}
use Rattle.index_def.specs.LiveIndexes.{Live}
use Rattle.scan_history.specs.declared.script.Script.{Script}
use Rattle.scan_history.specs.Events.{publish}
use Rattle.scan_history.specs.Fold.{State, step}
use Rattle.scan_history.specs.Readings.{Read, AreRead}
use Rattle.scan_history.specs.Legal.{GoesOn, MayFollow}
use Rattle.gsi_sched.specs.Machine.{Worker, Machine, now_in, high_in, published_in, with_event, with_worker}
use Rattle.gsi_sched.specs.ScheduleLines.{publish_at}
use Rattle.gsi_sched.specs.ClientActions.{catch_up, caught_up}
use Rattle.gsi_sched.specs.Running.{IsServed, IsWorking, IsRunning}
use Rattle.gsi_sched.specs.inner.Below.{Below}
use Rattle.gsi_sched.proofs.Served.{put_same, same_number}
use Rattle.gsi_sched.proofs.Steps.{worker_changed, event_happens}

-- nothing but publications came between two states, and they went forth
pub record IsQuiet (s t : State) : Type 0 where
  pub log : t.log ≡ s.log
  pub defs : t.defs ≡ s.defs
  pub live : t.live ≡ s.live
  pub client : t.client ≡ s.client
  pub forth : (i : ℕ) → IsCovered (s.published i) (t.published i)

module _ (below : Below) (script : Script) where
  abbrev n : ℕ
  n = script.vbuckets

  pub quiet_self : (s : State) → IsQuiet s s
  quiet_self s = record { log = refl; defs = refl; live = refl; client = refl; forth = λ i. below.reflexive (s.published i) }

  -- each publication has an entry for each vBucket
  published_size : (m : Machine) (i : ℕ) → IsRunning script m → length (published_in n i m) ≡ n
  published_size m i runs = ((below.consistent script m.events runs.legal).published i).size ∙ below.high_size n (now_in n m).log

  pub quiet_on : (m t u : Machine) → IsRunning script m → IsRunning script t → IsQuiet (now_in n m) (now_in n t) → IsQuiet (now_in n t) (now_in n u) → IsQuiet (now_in n m) (now_in n u)
  quiet_on m t u runs runs_too one two = record {
    log = two.log ∙ one.log;
    defs = two.defs ∙ one.defs;
    live = two.live ∙ one.live;
    client = two.client ∙ one.client;
    forth = λ i.
        below.transitive (published_in n i m) (published_in n i t) (published_in n i u)
        (published_size m i runs ∙ sym (published_size t i runs_too)) (one.forth i) (two.forth i);
  }

  -- ---- a publication

  module _ (read : List ℕ → Read) (are : AreRead read) where
    may_publish : (m : Machine) (i : ℕ) (at : List ℕ) → IsRunning script m → IsWorking (now_in n m).live i → IsCovered (published_in n i m) at
        → length at ≡ length (high_in n m) → IsCovered at (high_in n m) → at ≢ published_in n i m → MayFollow read script (now_in n m) (publish i at)
    may_publish m i at runs works forth size reached other =
        subst (λ (o : Option Live). MatchOption o ⊥ (GoesOn (high_in n m) (published_in n i m) at)) (sym works.1)
        (record { served = works.2; size = size; forth = forth; reached = reached; other = other })

    abbrev pub Published : Machine → ℕ → List ℕ → Machine → Type 0
    Published m i at t = IsRunning script t × IsQuiet (now_in n m) (now_in n t) × (published_in n i t ≡ at)

    pub published_new : (m : Machine) (i : ℕ) (at : List ℕ) → IsRunning script m → IsWorking (now_in n m).live i → IsCovered (published_in n i m) at
        → length at ≡ length (high_in n m) → IsCovered at (high_in n m) → IsCovered at (m.worker i).at → at ≢ published_in n i m → Published m i at (with_event (publish i at) m)
    published_new m i at runs works forth size reached worked other =
        let s = now_in n m in
        let then : now_in n (with_event (publish i at) m) ≡ step n s (publish i at) = below.one_more n m.events (publish i at) in (
          event_happens below script read m (publish i at) are runs (may_publish m i at runs works forth size reached other)
              (λ j. cond_both (j == i) at (s.published j) (λ v. IsCovered v (m.worker j).at)
              (λ is. subst (λ k. IsCovered at (m.worker k).at) (sym (same_number i j is)) worked) (λ not_it. (runs.serving.worker j).forth)),
          subst (λ (t : State). IsQuiet s t) (sym then) (record {
            log = refl;
            defs = refl;
            live = refl;
            client = refl;
            forth = λ j. cond_both (j == i) at (s.published j) (IsCovered (s.published j))
                (λ is. subst (λ k. IsCovered (s.published k) at) (sym (same_number i j is)) forth) (λ not_it. below.reflexive (s.published j));
          }),
          ap (λ (t : State). t.published i) then ∙ put_same i at s.published,
        )

    pub published_at : (m : Machine) (i : ℕ) (at : List ℕ) → IsRunning script m → IsWorking (now_in n m).live i → IsCovered (published_in n i m) at
        → length at ≡ length (high_in n m) → IsCovered at (high_in n m) → IsCovered at (m.worker i).at → Published m i at (publish_at n at i m)
    published_at m i at runs works forth size reached worked =
        cond_both (bytes_eq at (published_in n i m)) m (with_event (publish i at) m) (Published m i at)
        (λ same. (runs, quiet_self (now_in n m), sym ((bytes_eq-Decides at (published_in n i m)).0 same)))
        (λ other. published_new m i at runs works forth size reached worked
        (λ same. true≢false (sym ((bytes_eq-Decides at (published_in n i m)).1 same) ∙ other)))

    -- ---- catching up

    pub caught_one : (m : Machine) (i : ℕ) → IsRunning script m → IsWorking (now_in n m).live i → Published m i (high_in n m) (catch_up n m i)
    caught_one m i runs works =
        let high = high_in n m in
        let w : Worker = record (m.worker i) { at = high } in
        let moved = with_worker i w m in
        let reached = (below.consistent script m.events runs.legal).published i in
        let served : IsServed high (published_in n i m) w =
        record { size = refl; forth = reached.below; reached = below.reflexive high; inbox = (runs.serving.worker i).inbox } in
        published_at moved i high (worker_changed below script m i w works runs served) works reached.below refl (below.reflexive high)
        (subst (λ (x : Worker). IsCovered high x.at) (sym (put_same i w m.worker)) (below.reflexive high))

    abbrev pub Caught : Machine → List ℕ → Machine → Type 0
    Caught m is t = IsRunning script t × IsQuiet (now_in n m) (now_in n t) × ((j : ℕ) → list_any (λ i. j == i) is ≡ true → published_in n j t ≡ high_in n m)

    pub caught_all : (is : List ℕ) (m : Machine) → IsRunning script m → AllByRecursion (IsWorking (now_in n m).live) is → Caught m is (caught_up n is m)
    caught_all [] m runs works = (runs, quiet_self (now_in n m), λ j has. absurd (true≢false (sym has)))
    caught_all (i ∷ is) m runs works =
        let t = catch_up n m i in
        let one = caught_one m i runs works.0 in
        let all : AllByRecursion (IsWorking (now_in n t).live) is = subst (λ live. AllByRecursion (IsWorking live) is) (sym one.1.live) works.1 in
        let rest = caught_all is t one.0 all in
        let u = caught_up n is t in
        let quiet = quiet_on m t u runs one.0 one.1 rest.1 in
        let high_same : high_in n t ≡ high_in n m = ap (high_of n) one.1.log in
        let high_still : high_in n u ≡ high_in n m = ap (high_of n) quiet.log in
        let later : (j : ℕ) → list_any (λ k. j == k) is ≡ true → published_in n j u ≡ high_in n m = λ j has. rest.2 j has ∙ high_same in
        let own : published_in n i u ≡ high_in n m =
        let there = (below.consistent script u.events rest.0.legal).published i in
        below.antisymmetric (published_in n i u) (high_in n m) (there.size ∙ ap length high_still)
        (subst (IsCovered (published_in n i u)) high_still there.below)
        (subst (λ v. IsCovered v (published_in n i u)) one.2 (rest.1.forth i)) in (
          rest.0,
          quiet,
          λ j has. elim (or_cases (j == i) (list_any (λ k. j == k) is) has) [
            | inl here ↦ subst (λ k. published_in n k u ≡ high_in n m) (sym (same_number i j here)) own
            | inr there ↦ later j there
          ],
        )
