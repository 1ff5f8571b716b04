-- Each line of the schedule, and each action of a client, keeps the machine running.
use Rattle.std.proofs.Common.{◌≡◌, ◌≢◌, ℕ, ◌+◌, ◌<◌, ◌≤◌, Bool, true, false, cond, nat_le, nat_lt, List, length, get_or, set, slice_set, slice_get, Option, Some, None, refl, sym, ap, ◌∙◌, subst, inl, inr, arith, length-set, get_or-set_same, get_or-set_other}
use Rattle.std.specs.Option.{option_map_or}
use Rattle.std.proofs.lemmas.Bool.{cond_both, cases_eq, true≢false}
use Rattle.std.proofs.lemmas.Bool.Decides.{nat_tests}
use Rattle.seq_vector.specs.Vectors.{entry, IsCovered}
use Rattle.n1ql_value.specs.declared.state.State.{State as Stage}
use Rattle.n1ql_value.specs.declared.state.State.TheVariants.{Deferred}
use Rattle.index_def.specs.LiveIndexes.{Live, is_named, named, numbered}
use Rattle.dcp_stream.specs.Streams.{Stream, Bounds, next_bounds, passed, advanced, rewound}
use Rattle.stability.specs.declared.offer.Offer.{Offer}
use Rattle.stability.specs.declared.offer.Offer.TheVariants.{Next, Repeat, Gap}
use Rattle.scan_history.specs.declared.script.Script.{Script}
use Rattle.scan_history.specs.First.{is_online}
use Rattle.scan_history.specs.Readings.{Read, AreRead}
use Rattle.gsi_sched.specs.Machine.{Worker, Machine, idle, now_in, high_in, published_in, with_worker, with_initial, sent, unsent, moved, taken}
use Rattle.gsi_sched.specs.ScheduleLines.{has_worker, on_index, is_online_in, given, project, given_to, project_to, deliver, lose, publish_now, rewind, rewind_to}
use Rattle.gsi_sched.specs.Running.{IsWithinHigh, IsFlowing, IsServed, IsWorking, IsRunning}
use Rattle.gsi_sched.specs.inner.Below.{Below}
use Rattle.gsi_sched.proofs.Served.{each_push, each_left, each_there}
use Rattle.gsi_sched.proofs.LiveIndexes.{online_is_built, found_numbered}
use Rattle.gsi_sched.proofs.FirstEvents.{by_option}
use Rattle.gsi_sched.proofs.Steps.{has_begun, maint_changed, initial_changed, worker_changed}
use Rattle.gsi_sched.proofs.CatchUps.{published_at}

-- ---- one entry of a vector is raised

raised : (v : List ℕ) (i x : ℕ) → i < length v → entry v i ≤ x → IsCovered v (slice_set v i x)
raised v i x there le vb within =
    elim (cases_eq vb i) [
      | inl here ↦
          let one : get_or (set v i x) i 0 ≡ x = get_or-set_same v i x 0 there in
          subst (λ k. get_or v k 0 ≤ get_or (set v i x) k 0) (sym here) (omega (arith, one, le))
      | inr other ↦
          let one : get_or (set v i x) vb 0 ≡ get_or v vb 0 = get_or-set_other v i vb x 0 other in
          omega (arith, one)
    ]

still_below : (v w : List ℕ) (i x : ℕ) → i < length v → x ≤ entry w i → IsCovered v w → IsCovered (slice_set v i x) w
still_below v w i x there le below vb within =
    elim (cases_eq vb i) [
      | inl here ↦
          let one : get_or (set v i x) i 0 ≡ x = get_or-set_same v i x 0 there in
          subst (λ k. get_or (set v i x) k 0 ≤ get_or w k 0) (sym here) (omega (arith, one, le))
      | inr other ↦
          let one : get_or (set v i x) vb 0 ≡ get_or v vb 0 = get_or-set_other v i vb x 0 other in
          let old : get_or v vb 0 ≤ get_or w vb 0 = below vb (omega (arith, within, length-set v i x)) in
          omega (arith, one, old)
    ]

-- ---- workers

module _ (below : Below) (high published : List ℕ) where
  pub sent_served : (b : Bounds) (w : Worker) → IsWithinHigh high b → IsServed high published w → IsServed high published (sent b w)
  sent_served b w is served =
      record { size = served.size; forth = served.forth; reached = served.reached; inbox = each_push (IsWithinHigh high) w.inbox b served.inbox is }

  pub unsent_served : (place : ℕ) (w : Worker) → IsServed high published w → IsServed high published (unsent place w)
  unsent_served place w served =
      record { size = served.size; forth = served.forth; reached = served.reached; inbox = each_left (IsWithinHigh high) w.inbox place served.inbox }

  pub taken_served : (b : Bounds) (w : Worker) → length published ≡ length high → IsWithinHigh high b → IsServed high published w → IsServed high published (taken b w)
  taken_served b w sized is served =
      let have : ℕ = entry w.at b.vb in
      let there : b.vb < length w.at = omega (arith, is.vbucket, served.size) in
      let Holds : Offer → Type 0 = λ o. IsServed high published (record w { at = moved b o w.at }) in
      cond_both (nat_le b.to have) Repeat (cond (nat_lt (have + 1) b.from) (Gap have b.from) (Next have)) Holds (λ repeat. served)
      (λ fresh. cond_both (nat_lt (have + 1) b.from) (Gap have b.from) (Next have) Holds (λ gap. served)
      (λ next.
      let more : have < b.to = grind (arith, nat_tests, fresh) in
      record {
        size = length-set w.at b.vb b.to ∙ served.size;
        forth = below.transitive published w.at (slice_set w.at b.vb b.to) (sized ∙ sym served.size) served.forth (raised w.at b.vb b.to there (omega (arith, more)));
        reached = still_below w.at high b.vb b.to there (omega (arith, is.last, is.reached)) served.reached;
        inbox = served.inbox;
      }))

module _ (below : Below) (script : Script) where
  abbrev n : ℕ
  n = script.vbuckets

  -- ---- streams

  flowing_back : (high to : List ℕ) (s : Stream) → length high ≡ n → length to ≡ n → IsFlowing high s → IsFlowing high (rewound to s)
  flowing_back high to s sized size flows =
      let same : length s.at ≡ length to = flows.size ∙ sized ∙ sym size in
      let back = below.stream_back to s same flows.stream in
      record {
        stream = back;
        size = below.size_back to s same ∙ flows.size;
        reached = below.transitive (rewound to s).ends s.ends high (back.size ∙ below.size_back to s same ∙ sym flows.stream.size) (below.within_back to s same flows.stream) flows.reached;
      }

  pub passed_on : (high : List ℕ) (most vb : ℕ) (s : Stream) (b : Bounds) → length high ≡ n → vb < n → 0 < most → IsFlowing high s → next_bounds high most vb s ≡ Some b
      → IsFlowing high (passed b s) × IsWithinHigh high b
  passed_on high most vb s b sized there some flows is =
      let in_s : vb < length s.at = omega (arith, there, sized, flows.size) in
      let moves : advanced high most vb s ≡ passed b s = ap (λ o. option_map_or (λ (b : Bounds). passed b s) o s) is in
      let bounds = below.bounds high most vb s b flows.stream flows.reached in_s some is in (
        subst (IsFlowing high) moves (record {
          stream = below.stream_next high most vb s flows.stream flows.reached in_s;
          size = below.size_next high most vb s ∙ flows.size;
          reached = below.reached_next high most vb s flows.stream flows.reached in_s;
        }),
        record {
          vbucket = omega (arith, bounds.0, there, sized);
          begins = bounds.1;
          some = bounds.2;
          last = bounds.3;
          reached = subst (λ k. b.end ≤ entry high k) (sym bounds.0) bounds.4;
        },
      )

  -- ---- lines of the schedule

  pub sized : (m : Machine) → length (high_in n m) ≡ n
  sized m = below.high_size n (now_in n m).log

  published_sized : (m : Machine) (i : ℕ) → IsRunning script m → length (published_in n i m) ≡ length (high_in n m)
  published_sized m i runs = ((below.consistent script m.events runs.legal).published i).size

  pub online_works : (m : Machine) (i : ℕ) → is_online_in n m i ≡ true → IsWorking (now_in n m).live i
  online_works m i is = by (numbered i (now_in n m).live) refl
    where
      by : (o : Option Live) → numbered i (now_in n m).live ≡ o → IsWorking (now_in n m).live i
      by None gone = absurd (true≢false (sym is ∙ ap (λ o. option_map_or (λ (index : Live). is_online index.state) o false) gone))
      by (Some index) found =
          (index, found, online_is_built index.state (sym (ap (λ o. option_map_or (λ (index : Live). is_online index.state) o false) found) ∙ is))

  given_keeps : (m : Machine) (b : Bounds) → IsRunning script m → IsFlowing (high_in n m) (passed b m.maint) → IsWithinHigh (high_in n m) b → IsRunning script (given n b m)
  given_keeps m b runs flows is = record {
    legal = runs.legal;
    serving = record {
      maint = flows;
      initial = runs.serving.initial;
      worker = λ i. cond_both (is_online_in n m i) (sent b (m.worker i)) (m.worker i) (IsServed (high_in n m) (published_in n i m))
          (λ to_it. sent_served below (high_in n m) (published_in n i m) b (m.worker i) is (runs.serving.worker i)) (λ not_to_it. runs.serving.worker i);
      fresh = λ i before. (
        cond_both (is_online_in n m i) (sent b (m.worker i)) (m.worker i) (λ w. w ≡ idle n)
            (λ to_it. absurd (has_begun below script m i runs (online_works m i to_it) before)) (λ not_to_it. (runs.serving.fresh i before).0),
        (runs.serving.fresh i before).1,
      );
    };
    built = runs.built;
  }

  pub project_keeps : (m : Machine) (most vb : ℕ) → vb < n → 0 < most → IsRunning script m → IsRunning script (project n most vb m)
  project_keeps m most vb there some runs =
      by_option (IsRunning script) (λ b. given n b m) m (next_bounds (high_in n m) most vb m.maint)
      (λ b is.
      let both = passed_on (high_in n m) most vb m.maint b (sized m) there some runs.serving.maint is in
      given_keeps m b runs both.0 both.1)
      (λ none. runs)

  pub project_to_keeps : (m : Machine) (most vb i : ℕ) → IsWorking (now_in n m).live i → vb < n → 0 < most → IsRunning script m → IsRunning script (project_to n most vb i m)
  project_to_keeps m most vb i works there some runs =
      by_option (IsRunning script) (λ b. given_to n i b m) m (next_bounds (high_in n m) most vb (m.initial i))
      (λ b is.
      let both = passed_on (high_in n m) most vb (m.initial i) b (sized m) there some (runs.serving.initial i) is in
      let then = initial_changed below script m i (passed b (m.initial i)) works runs both.0 in
      worker_changed below script (with_initial i (passed b (m.initial i)) m) i (sent b (m.worker i)) works then
      (sent_served below (high_in n m) (published_in n i m) b (m.worker i) both.1 (runs.serving.worker i)))
      (λ none. runs)

  pub deliver_keeps : (m : Machine) (place i : ℕ) → IsWorking (now_in n m).live i → IsRunning script m → IsRunning script (deliver n place i m)
  deliver_keeps m place i works runs =
      by_option (IsRunning script) (λ b. with_worker i (taken b (unsent place (m.worker i))) m) m (slice_get (m.worker i).inbox place)
      (λ b is.
      let high = high_in n m in
      let was = runs.serving.worker i in
      worker_changed below script m i (taken b (unsent place (m.worker i))) works runs
      (taken_served below high (published_in n i m) b (unsent place (m.worker i)) (published_sized m i runs)
      (each_there (IsWithinHigh high) (m.worker i).inbox place b was.inbox is) (unsent_served below high (published_in n i m) place (m.worker i) was)))
      (λ none. runs)

  pub lose_keeps : (m : Machine) (place i : ℕ) → IsWorking (now_in n m).live i → IsRunning script m → IsRunning script (lose n place i m)
  lose_keeps m place i works runs =
      worker_changed below script m i (unsent place (m.worker i)) works runs
      (unsent_served below (high_in n m) (published_in n i m) place (m.worker i) (runs.serving.worker i))

  pub rewind_keeps : (m : Machine) (to : List ℕ) → length to ≡ n → IsRunning script m → IsRunning script (rewind to m)
  rewind_keeps m to size runs = maint_changed below script m (rewound to m.maint) runs (flowing_back (high_in n m) to m.maint (sized m) size runs.serving.maint)

  pub rewind_to_keeps : (m : Machine) (to : List ℕ) (i : ℕ) → IsWorking (now_in n m).live i → length to ≡ n → IsRunning script m → IsRunning script (rewind_to to i m)
  rewind_to_keeps m to i works size runs =
      initial_changed below script m i (rewound to (m.initial i)) works runs (flowing_back (high_in n m) to (m.initial i) (sized m) size (runs.serving.initial i))

  pub publish_keeps : (read : List ℕ → Read) → AreRead read → (m : Machine) (i : ℕ) → IsWorking (now_in n m).live i → IsRunning script m → IsRunning script (publish_now n i m)
  publish_keeps read are m i works runs =
      let was = runs.serving.worker i in
      (published_at below script read are m i (m.worker i).at runs works was.forth was.size was.reached (below.reflexive (m.worker i).at)).0

  -- a line that names an index
  pub on_index_keeps : (m : Machine) (name : List ℕ) (needed : Stage → Bool) (does : ℕ → Machine → Machine) → IsRunning script m
      → ((index : Live) → named name (now_in n m).live ≡ Some index → needed index.state ≡ true → IsRunning script (does index.number m))
      → IsRunning script (on_index n name needed does m)
  on_index_keeps m name needed does runs keeps =
      by_option (IsRunning script) (λ (index : Live). cond (needed index.state) (does index.number m) m) m (named name (now_in n m).live)
      (λ index found. cond_both (needed index.state) (does index.number m) m (IsRunning script) (λ is. keeps index found is) (λ other. runs))
      (λ none. runs)

  worker_works : (state : Stage) → has_worker state ≡ true → state ≢ Deferred
  worker_works state is e = true≢false (sym is ∙ ap has_worker e)

  pub named_works : (m : Machine) (name : List ℕ) (index : Live) → IsRunning script m → named name (now_in n m).live ≡ Some index → has_worker index.state ≡ true
      → IsWorking (now_in n m).live index.number
  named_works m name index runs found is =
      let holds = below.consistent script m.events runs.legal in
      (index, (found_numbered (is_named name) 0 (length (now_in n m).defs) (now_in n m).live index holds.live found).1, worker_works index.state is)
