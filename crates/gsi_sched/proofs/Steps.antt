-- The machine runs on where an event happens, or where a stream or a worker is changed.
use Rattle.std.proofs.Common.{◌≡◌, ◌≢◌, ◌⊎◌, ℕ, ◌<◌, ◌≤◌, Bool, true, false, List, [], ◌∷◌, ◌++◌, length, find, slice_get, Option, Some, None, refl, sym, ap, ◌∙◌, subst, inl, inr, arith}
use Rattle.std.specs.Prelude.{⊤}
use Rattle.std.specs.List.{AllByRecursion}
use Rattle.std.proofs.lemmas.Bool.{cases_lt, cond_both, cond-true, cond-false, true≢false}
use Rattle.std.proofs.lemmas.Option.{slice_get_within, same_Some}
use mathlib.Core.Path.{fun_ext}
use Rattle.seq_vector.specs.Vectors.{IsCovered}
use Rattle.vb_store.specs.Mutations.{high_of}
use Rattle.n1ql_value.specs.declared.state.State.{State as Stage}
use Rattle.n1ql_value.specs.declared.state.State.TheVariants.{Deferred, Building, Online}
use Rattle.index_def.specs.declared.definition.IndexDef.{IndexDef}
use Rattle.index_def.specs.LiveIndexes.{Live, is_named, is_numbered, numbered, AreNumbered, state_at_creation}
use Rattle.dcp_stream.specs.Streams.{Stream, unread}
use Rattle.scan_history.specs.declared.script.Script.{Script}
use Rattle.scan_history.specs.Consistent.{IsConsistent, IsOpenSince}
use Rattle.scan_history.specs.Events.{Event, mutate, define, build, online, publish, removed, start, answer, pick, fetch, not_yet, refuse}
use Rattle.scan_history.specs.Fold.{Opened, nothing, work, started, picked, Client, State, log_step, live_step, published_step, own_step, is_of, step, state_after}
use Rattle.scan_history.specs.First.{command_at, first_of, first_action}
use Rattle.scan_history.specs.Readings.{Read, AreRead}
use Rattle.scan_history.specs.Legal.{MayFollow, IsLegal}
use Rattle.gsi_sched.specs.Machine.{Worker, Machine, idle, now_in, high_in, published_in, with_event, with_worker, with_initial}
use Rattle.gsi_sched.specs.Running.{IsFlowing, IsServed, IsServing, IsBuilt, IsWorking, HasNotBegun, indexes_of, IsRunning}
use Rattle.gsi_sched.specs.inner.Below.{Below}
use Rattle.gsi_sched.proofs.Served.{slice_past, put_keeps, flowing_later, served_later}
use Rattle.gsi_sched.proofs.LiveIndexes.{online_is_built, found_is, found_made, last_found, found_numbered, all_built}
use Rattle.gsi_sched.proofs.FirstEvents.{by_made, by_command}

pub ordered : (a b : ℕ) → (a ≤ b) ⊎ (b < a)
ordered a b = elim (cases_lt b a) [ inl low ↦ inr low | inr le ↦ inl le ]

-- the definition of a live index
each_there_by : (P : Live → Type 0) (test : Live → Bool) (live : List Live) (index : Live) → AllByRecursion P live → find test live ≡ Some index → P index
each_there_by P test [] index all found = absurd cc
each_there_by P test (x ∷ live) index all found =
    let by : (b : Bool) → test x ≡ b → P index = λ b. elim b as (λ b. test x ≡ b → P index) [
      | true ↦ λ is. subst P (same_Some x index (sym (cond-true (test x) (Some x) (find test live) is) ∙ found)) all.0
      | false ↦ λ other. each_there_by P test live index all.1 (sym (cond-false (test x) (Some x) (find test live) other) ∙ found)
    ] in
    by (test x) refl

pub each_found : (n : ℕ) (s : State) → IsConsistent n s → (i : ℕ) (index : Live) → numbered i s.live ≡ Some index → slice_get s.defs i ≡ Some index.def
each_found n s holds i index found =
    subst (λ k. slice_get s.defs k ≡ Some index.def) (found_is i s.live index found)
    (each_there_by (λ (x : Live). slice_get s.defs x.number ≡ Some x.def) (is_numbered i) s.live index holds.defs found)

module _ (below : Below) (script : Script) where
  abbrev n : ℕ
  n = script.vbuckets

  -- ---- a stream or a worker is changed

  -- an index that works has begun to be built
  pub has_begun : (m : Machine) (i : ℕ) → IsRunning script m → IsWorking (now_in n m).live i → HasNotBegun (now_in n m) i → ⊥
  has_begun m i runs works (inl above) =
      let holds = below.consistent script m.events runs.legal in
      let low = found_made i 0 (length (now_in n m).defs) (now_in n m).live works.0 holds.live works.1 in
      absurd (omega (arith, low, above))
  has_begun m i runs works (inr deferred) = works.2 (ap (λ (x : Live). x.state) (same_Some works.0 deferred.0 (sym works.1 ∙ deferred.1)) ∙ deferred.2)

  pub maint_changed : (m : Machine) (s : Stream) → IsRunning script m → IsFlowing (high_in n m) s → IsRunning script (record m { maint = s })
  maint_changed m s runs flows = record {
    legal = runs.legal;
    serving = record { maint = flows; initial = runs.serving.initial; worker = runs.serving.worker; fresh = runs.serving.fresh };
    built = runs.built;
  }

  pub initial_changed : (m : Machine) (i : ℕ) (s : Stream) → IsWorking (now_in n m).live i → IsRunning script m → IsFlowing (high_in n m) s → IsRunning script (with_initial i s m)
  initial_changed m i s works runs flows = record {
    legal = runs.legal;
    serving = record {
      maint = runs.serving.maint;
      initial = put_keeps (λ j. IsFlowing (high_in n m)) i s m.initial flows runs.serving.initial;
      worker = runs.serving.worker;
      fresh = λ j before. (
        (runs.serving.fresh j before).0,
        put_keeps (λ j s. HasNotBegun (now_in n m) j → s ≡ unread n) i s m.initial (λ mine. absurd (has_begun m i runs works mine)) (λ j before. (runs.serving.fresh j before).1) j before,
      );
    };
    built = runs.built;
  }

  pub worker_changed : (m : Machine) (i : ℕ) (w : Worker) → IsWorking (now_in n m).live i → IsRunning script m → IsServed (high_in n m) (published_in n i m) w → IsRunning script (with_worker i w m)
  worker_changed m i w works runs served = record {
    legal = runs.legal;
    serving = record {
      maint = runs.serving.maint;
      initial = runs.serving.initial;
      worker = put_keeps (λ j. IsServed (high_in n m) (published_in n j m)) i w m.worker served runs.serving.worker;
      fresh = λ j before. (
        put_keeps (λ j w. HasNotBegun (now_in n m) j → w ≡ idle n) i w m.worker (λ mine. absurd (has_begun m i runs works mine)) (λ j before. (runs.serving.fresh j before).0) j before,
        (runs.serving.fresh j before).1,
      );
    };
    built = runs.built;
  }

  -- ---- an event happens

  high_goes_on : (s : State) (e : Event) → IsCovered (high_of n s.log) (high_of n (log_step s.log e))
  high_goes_on s (mutate c k what) = below.high_grows n s.log (what ∷ [])
  high_goes_on s _ = below.reflexive (high_of n s.log)

  serving_on : (m : Machine) (s : State) (e : Event) → IsServing n s m → ((i : ℕ) → HasNotBegun (step n s e) i → HasNotBegun s i)
      → ((i : ℕ) → IsCovered (published_step s.published e i) (m.worker i).at) → IsServing n (step n s e) (with_event e m)
  serving_on m s e serves earlier forth =
      let same = below.high_size n s.log ∙ sym (below.high_size n (log_step s.log e)) in
      let up = high_goes_on s e in
      record {
        maint = flowing_later below (high_of n s.log) (high_of n (log_step s.log e)) same up m.maint serves.maint;
        initial = λ i. flowing_later below (high_of n s.log) (high_of n (log_step s.log e)) same up (m.initial i) (serves.initial i);
        worker = λ i.
            let served = served_later below (high_of n s.log) (high_of n (log_step s.log e)) same up (s.published i) (m.worker i) (serves.worker i) in
            record { size = served.size; forth = forth i; reached = served.reached; inbox = served.inbox };
        fresh = λ i before. serves.fresh i (earlier i before);
      }

  -- what is told of the events may be told by one reading of texts
  pub by_one_reading : (read : List ℕ → Read) (s : State) (e : Event) → AreRead read → MayFollow read script s e
      → (other : List ℕ → Read) → AreRead other → MayFollow other script s e
  by_one_reading read s e are may other are_too =
      subst (λ (r : List ℕ → Read). MayFollow r script s e) (fun_ext (λ text. below.one_reading read other are are_too text)) may

  -- what isn't deferred stays so
  module _ (events : List Event) (e : Event) (legal : IsLegal script (events ++ e ∷ [])) where
    abbrev before : State
    before = state_after n events

    abbrev after : State
    after = state_after n (events ++ e ∷ [])

    still_built : (i : ℕ) → i < length before.defs → IsBuilt before.live i → IsBuilt after.live i
    still_built i made built later found = by (numbered i before.live) refl
      where
        by : (o : Option Live) → numbered i before.live ≡ o → later.state ≢ Deferred
        by None gone = let none = below.dropped script events (e ∷ []) i legal made gone in absurd (absurd cc)
        by (Some index) there = below.served script events (e ∷ []) i index later legal there (built index there) found

    -- what hasn't begun hadn't
    had_not_begun : (i : ℕ) → HasNotBegun after i → HasNotBegun before i
    had_not_begun i (inl above) = by (slice_get before.defs i) refl
      where
        by : (o : Option IndexDef) → slice_get before.defs i ≡ o → HasNotBegun before i
        by None none = inl (slice_past before.defs i none)
        by (Some def) there =
            let still = slice_get_within after.defs i def (below.made n events (e ∷ []) i def there) in
            absurd (omega (arith, still, above))
    had_not_begun i (inr deferred) = by (numbered i before.live) refl
      where
        as_it_was : (index : Live) (state : Stage) → index.state ≡ state → numbered i before.live ≡ Some index → HasNotBegun before i
        as_it_was index Deferred is there = inr (index, there, is)
        as_it_was index Building is there = absurd (below.served script events (e ∷ []) i index deferred.0 legal there (λ it. let no : Building ≡ Deferred = sym is ∙ it in absurd cc) deferred.1 deferred.2)
        as_it_was index Online is there = absurd (below.served script events (e ∷ []) i index deferred.0 legal there (λ it. let no : Online ≡ Deferred = sym is ∙ it in absurd cc) deferred.1 deferred.2)

        unless_made : (length before.defs ≤ i) ⊎ (i < length before.defs) → numbered i before.live ≡ None → HasNotBegun before i
        unless_made (inl above) gone = inl above
        unless_made (inr made) gone =
            let none : None ≡ Some deferred.0 = sym (below.dropped script events (e ∷ []) i legal made gone) ∙ deferred.1 in
            absurd cc

        by : (o : Option Live) → numbered i before.live ≡ o → HasNotBegun before i
        by None gone = unless_made (ordered (length before.defs) i) gone
        by (Some index) there = as_it_was index index.state refl there

    all_still_built : (numbers : List ℕ) → AllByRecursion (λ i. i < length before.defs) numbers
        → AllByRecursion (IsBuilt before.live) numbers → AllByRecursion (IsBuilt after.live) numbers
    all_still_built [] made built = tt
    all_still_built (i ∷ is) made built = (still_built i made.0 built.0, all_still_built is made.1 built.1)

    open_still_built : (high : List ℕ) (o : Opened) → IsOpenSince high (length before.defs) o
        → AllByRecursion (IsBuilt before.live) (indexes_of o) → AllByRecursion (IsBuilt after.live) (indexes_of o)
    open_still_built high nothing since built = tt
    open_still_built high (work numbers from) since built = all_still_built numbers since.0 built
    open_still_built high (started i demand from) since built = (still_built i since.0 built.0, tt)
    open_still_built high (picked i at) since built = tt

  -- ---- what the event's own client opens

  abbrev LeavesBuilt : List Live → Opened → Type 0
  LeavesBuilt live o = AllByRecursion (IsBuilt live) (indexes_of o)

  built_if : (live : List Live) (i : ℕ) (x : Live) → numbered i live ≡ Some x → x.state ≢ Deferred → IsBuilt live i
  built_if live i x there is index found = subst (λ (y : Live). y.state ≢ Deferred) (same_Some x index (sym there ∙ found)) is

  -- the last index, where it isn't deferred
  created : (made : ℕ) (live : List Live) (x : Live) → AreNumbered 0 made (live ++ x ∷ []) → x.state ≢ Deferred → IsBuilt (live ++ x ∷ []) x.number
  created made live x numbers is = built_if (live ++ x ∷ []) x.number x (last_found 0 made live x numbers).1 is

  is_built_now : (b : Bool) → b ≡ false → state_at_creation b ≢ Deferred
  is_built_now true is = absurd (true≢false is)
  is_built_now false is = λ e. absurd cc

  -- the first action begins a request on an index that isn't deferred
  abbrev StartsBuilt : State → Event → Type 0
  StartsBuilt s (start d k i demand) = IsBuilt s.live i
  StartsBuilt s _ = ⊤

  starts_built : (read : List ℕ → Read) (s : State) (c : ℕ) (e : Event) (made : ℕ) → AreNumbered 0 made s.live
      → first_action read script s c ≡ Some e → StartsBuilt s e
  starts_built read s c e made numbers is =
      by_made (StartsBuilt s) (first_of read script s c (s.client c).next) (command_at script c (s.client c).next) e
      (λ asked there.
      by_command read script s c (s.client c).next (StartsBuilt s)
      (λ what. tt) (λ i deferred def. tt) (λ names deferred. tt) (λ name index is. tt)
      (λ name index demand found online.
      built_if s.live index.number index (found_numbered (is_named name) 0 made s.live index numbers found).1 (online_is_built index.state online))
      (λ number why. tt) asked)
      is

  own_built : (read : List ℕ → Read) (s : State) (e : Event) (c made : ℕ) → AreNumbered 0 made s.live → AreNumbered 0 (length (step n s e).defs) (step n s e).live
      → MayFollow read script s e → is_of c e ≡ true → LeavesBuilt (live_step s.live e) (own_step (high_of n s.log) (s.client c) e).opened
  own_built read s (mutate d k what) c made old new may of = tt
  own_built read s (define d k i deferred def) c made old new may of =
      cond_both deferred _ _ (λ (part : Client). LeavesBuilt (live_step s.live (define d k i deferred def)) part.opened) (λ yes. tt)
      (λ no. (created (length (s.defs ++ def ∷ [])) s.live (record { number = i; def = def; state = state_at_creation deferred }) new (is_built_now deferred no), tt))
  own_built read s (build d k indexes) c made old new may of = all_built indexes s.live
  own_built read s (online d k indexes) c made old new may of = tt
  own_built read s (publish i at) c made old new may of = absurd (true≢false (sym of))
  own_built read s (removed d k i) c made old new may of = tt
  own_built read s (start d k i demand) c made old new may of = (starts_built read s d (start d k i demand) made old may.1, tt)
  own_built read s (answer d k at) c made old new may of = tt
  own_built read s (pick d k at) c made old new may of = tt
  own_built read s (fetch d k at fetched) c made old new may of = tt
  own_built read s (not_yet d k have) c made old new may of = tt
  own_built read s (refuse d k number why) c made old new may of = tt

  pub event_happens : (read : List ℕ → Read) (m : Machine) (e : Event) → AreRead read → IsRunning script m → MayFollow read script (now_in n m) e
      → ((i : ℕ) → IsCovered (published_step (now_in n m).published e i) (m.worker i).at) → IsRunning script (with_event e m)
  event_happens read m e are runs may forth =
      let s = now_in n m in
      let then : now_in n (with_event e m) ≡ step n s e = below.one_more n m.events e in
      let legal : IsLegal script (m.events ++ e ∷ []) = below.legal_more script m.events e runs.legal (by_one_reading read s e are may) in
      let consistent = below.consistent script m.events runs.legal in
      let numbers : AreNumbered 0 (length (step n s e).defs) (step n s e).live =
      subst (λ (t : State). AreNumbered 0 (length t.defs) t.live) then (below.consistent script (m.events ++ e ∷ []) legal).live in
      let own : (c : ℕ) → is_of c e ≡ true → LeavesBuilt (live_step s.live e) (own_step (high_of n s.log) (s.client c) e).opened =
      λ c of. own_built read s e c (length s.defs) consistent.live numbers may of in
      let other : (c : ℕ) → LeavesBuilt (live_step s.live e) (s.client c).opened =
      λ c. subst (λ (t : State). LeavesBuilt t.live (s.client c).opened) then
      (open_still_built m.events e legal (high_of n s.log) (s.client c).opened (consistent.client c).opened (runs.built c)) in
      let earlier : (i : ℕ) → HasNotBegun (step n s e) i → HasNotBegun s i =
      λ i. subst (λ (t : State). HasNotBegun t i → HasNotBegun s i) then (had_not_begun m.events e legal i) in
      record {
        legal = legal;
        serving = subst (λ (t : State). IsServing n t (with_event e m)) (sym then) (serving_on m s e runs.serving earlier forth);
        built = λ c.
            subst (λ (t : State). LeavesBuilt t.live (t.client c).opened) (sym then)
            (cond_both (is_of c e) (own_step (high_of n s.log) (s.client c) e) (s.client c) (λ (part : Client). LeavesBuilt (live_step s.live e) part.opened) (own c) (λ not_own. other c));
      }
