-- A legal history leaves a consistent state: each event that may follow keeps it so.
use Rattle.std.proofs.Common.{◌≡◌, ℕ, ◌<◌, ◌≤◌, true, ◌==◌, List, [], ◌∷◌, ◌++◌, length, Some, slice_get, refl, sym, subst, arith}
use Rattle.std.specs.List.{AllByRecursion}
use Rattle.std.proofs.lemmas.Bool.{cond_both}
use Rattle.std.proofs.lemmas.Bool.Decides.{nat_tests}
use Rattle.seq_vector.specs.Vectors.{IsCovered, join, zeros}
use Rattle.vb_store.specs.Mutations.{IsNumbered, high_of}
use Rattle.n1ql_value.specs.Limits.{max_indexes}
use Rattle.n1ql_value.specs.declared.state.State.TheVariants.{Building, Online}
use Rattle.index_def.specs.declared.definition.IndexDef.{IndexDef}
use Rattle.index_def.specs.LiveIndexes.{Live, AreNumbered, numbered, state_at_creation}
use Rattle.scan_history.specs.declared.script.Script.{Script}
use Rattle.scan_history.specs.Events.{Event, mutate, define, build, online, publish, removed, start, answer, pick, fetch, not_yet, refuse}
use Rattle.scan_history.specs.Fold.{Opened, nothing, work, started, picked, State, first_state, log_step, defs_step, live_step, published_step, own_step, index_in, is_of, step, state_from}
use Rattle.scan_history.specs.Readings.{Read}
use Rattle.scan_history.specs.Legal.{IsFirst, GoesOn, MayAnswer, MayFetch, MayFollow, IsLegalFrom}
use Rattle.scan_history.specs.Consistent.{IsReached, IsOpenSince, IsPart, IsConsistent}
use Rattle.scan_history.proofs.Lists.{if_some, each_push, each_weaker, slice_get-append, slice_get_last, length_push}
use Rattle.scan_history.proofs.LiveLists.{pushed, left, all_changed, each_left, each_all_changed, numbered_made}
use Rattle.scan_history.proofs.FirstActions.{IsFitting, first_fits}
use Rattle.scan_history.specs.inner.Known.{Known}
use Rattle.scan_history.proofs.Reached.{reached_self, reached_later, reached_join, reached_zeros, reached_next}

-- an event of a client is of that client alone
pub of_one : (c d : ℕ) → (d == c) ≡ true → d ≡ c
of_one c d is = grind (arith, nat_tests, is)

module _ (known : Known) (read : List ℕ → Read) (script : Script) (s : State) (holds : IsConsistent script.vbuckets s) where
  abbrev high : List ℕ
  high = high_of script.vbuckets s.log

  abbrev made : ℕ
  made = length s.defs

  pub fits : (c : ℕ) (e : Event) → IsFirst read script s c e → IsFitting read script s c e
  fits c e first = first_fits read script s holds.live c e first.1

  -- the newest numbers, and the count of indexes, after an event
  abbrev high_then : Event → List ℕ
  high_then e = high_of script.vbuckets (log_step s.log e)

  abbrev made_then : Event → ℕ
  made_then e = length (defs_step s.defs e)

  pub reached_then : (e : Event) (v : List ℕ) → IsReached high v → IsReached (high_then e) v
  reached_then (mutate c k what) v r = reached_later known script.vbuckets s.log (what ∷ []) v r
  reached_then _ v r = r

  made_more : (e : Event) → made ≤ made_then e
  made_more (define c k i deferred def) = omega (arith, length_push s.defs def)
  made_more _ = omega arith

  log_then : (e : Event) → MayFollow read script s e → IsNumbered script.vbuckets (log_step s.log e)
  log_then (mutate c k what) may = known.numbered_next script.vbuckets s.log what holds.log (fits c (mutate c k what) may).2
  log_then _ may = holds.log

  few_then : (e : Event) → MayFollow read script s e → made_then e ≤ max_indexes
  few_then (define c k i deferred def) may =
      let fit = (fits c (define c k i deferred def) may).2 in
      omega (arith, length_push s.defs def, fit.1)
  few_then _ may = holds.made

  live_then : (e : Event) → MayFollow read script s e → AreNumbered 0 (made_then e) (live_step s.live e)
  live_then (define c k i deferred def) may =
      let fit = (fits c (define c k i deferred def) may).2 in
      subst (λ m. AreNumbered 0 m (live_step s.live (define c k i deferred def))) (sym (length_push s.defs def))
      (pushed 0 made s.live (record { number = i; def = def; state = state_at_creation deferred }) fit.0 holds.live)
  live_then (build c k indexes) may = all_changed indexes made Building s.live holds.live
  live_then (online c k indexes) may = all_changed indexes made Online s.live holds.live
  live_then (removed c k i) may = left i 0 made s.live holds.live
  live_then _ may = holds.live

  abbrev HasDefinition : List IndexDef → Live → Type 0
  HasDefinition defs index = slice_get defs index.number ≡ Some index.def

  defs_then : (e : Event) → MayFollow read script s e → AllByRecursion (HasDefinition (defs_step s.defs e)) (live_step s.live e)
  defs_then (define c k i deferred def) may =
      let fit = (fits c (define c k i deferred def) may).2 in
      each_push (HasDefinition (s.defs ++ def ∷ [])) s.live (record { number = i; def = def; state = state_at_creation deferred })
      (each_weaker (HasDefinition s.defs) (HasDefinition (s.defs ++ def ∷ [])) (λ index at. slice_get-append s.defs (def ∷ []) index.number index.def at) s.live holds.defs)
      (subst (λ j. slice_get (s.defs ++ def ∷ []) j ≡ Some def) (sym fit.0) (slice_get_last s.defs def))
  defs_then (build c k indexes) may = each_all_changed (HasDefinition s.defs) Building (λ index at. at) indexes s.live holds.defs
  defs_then (online c k indexes) may = each_all_changed (HasDefinition s.defs) Online (λ index at. at) indexes s.live holds.defs
  defs_then (removed c k i) may = each_left (HasDefinition s.defs) i s.live holds.defs
  defs_then _ may = holds.defs

  -- a publication that may follow is of an index that was made, and goes on
  publishes : (i : ℕ) (at : List ℕ) → MayFollow read script s (publish i at) → (i < made) × IsReached high at
  publishes i at may =
      let found = if_some (numbered i s.live) (GoesOn high (s.published i) at) may in
      (numbered_made i made s.live found.0 holds.live found.1, record { size = found.2.size; below = found.2.reached })

  published_then : (e : Event) → MayFollow read script s e → (j : ℕ) → IsReached (high_then e) (published_step s.published e j)
  published_then (publish i at) may j =
      cond_both (j == i) at (s.published j) (IsReached high) (λ is. (publishes i at may).1) (λ other. holds.published j)
  published_then (mutate c k what) may j = reached_then (mutate c k what) (s.published j) (holds.published j)
  published_then _ may j = holds.published j

  unpublished_then : (e : Event) → MayFollow read script s e → (j : ℕ) → made_then e ≤ j → published_step s.published e j ≡ zeros script.vbuckets
  unpublished_then (publish i at) may j above =
      let lower = (publishes i at may).0 in
      cond_both (j == i) at (s.published j) (λ v. v ≡ zeros script.vbuckets)
      (λ is. let same : j ≡ i = of_one i j is in absurd (omega (arith, same, lower, above)))
      (λ other. holds.unpublished j above)
  unpublished_then (define c k i deferred def) may j above = holds.unpublished j (omega (arith, above, length_push s.defs def))
  unpublished_then _ may j above = holds.unpublished j above

  -- what is open stays so
  open_then : (e : Event) (o : Opened) → IsOpenSince high made o → IsOpenSince (high_then e) (made_then e) o
  open_then e nothing h = tt
  open_then e (work indexes since) h =
      (each_weaker (λ i. i < made) (λ i. i < made_then e) (λ i low. omega (arith, low, made_more e)) indexes h.0, reached_then e since h.1)
  open_then e (started i demand since) h = (omega (arith, h.0, made_more e), reached_then e since h.1)
  open_then e (picked i at) h = (omega (arith, h.0, made_more e), reached_then e at h.1)

  part_then : (e : Event) (c : ℕ) → IsPart (high_then e) (made_then e) (s.client c)
  part_then e c =
      let part = holds.client c in
      record {
        opened = open_then e (s.client c).opened part.opened;
        seen = reached_then e (s.client c).seen part.seen;
        wrote = reached_then e (s.client c).wrote part.wrote;
      }

  -- the vector of an answer was reached, and its request is open on an index that was made
  pub answers : (at : List ℕ) (o : Opened) → MayAnswer s at o → IsReached high at
  answers at nothing h = absurd h
  answers at (work indexes since) h = absurd h
  answers at (started i demand since) h =
      let found = if_some (numbered i s.live) (λ index. (at ≡ s.published i) × IsCovered demand at) h in
      subst (IsReached high) (sym found.2.0) (holds.published i)
  answers at (picked i v) h = absurd h

  begun : (at : List ℕ) (o : Opened) → MayAnswer s at o → IsOpenSince high made o → index_in o < made
  begun at nothing h since = absurd h
  begun at (work indexes from) h since = absurd h
  begun at (started i demand from) h since = since.0
  begun at (picked i v) h since = absurd h

  fetches : (at fetched : List ℕ) (o : Opened) → MayFetch high at fetched o → IsOpenSince high made o → IsReached high at × IsReached high fetched
  fetches at fetched nothing h since = absurd h
  fetches at fetched (work indexes from) h since = absurd h
  fetches at fetched (started i demand from) h since = absurd h
  fetches at fetched (picked i v) h since = (subst (IsReached high) (sym h.0) since.1, subst (IsReached high) (sym h.1) (reached_self known high))

  -- a client's part after its own event
  abbrev Own : ℕ → Event → Type 0
  Own c e = IsPart (high_then e) (made_then e) (own_step high (s.client c) e)

  own_then : (e : Event) (c : ℕ) → is_of c e ≡ true → MayFollow read script s e → Own c e
  own_then (mutate d k what) c of may =
      let part = part_then (mutate d k what) c in
      record { opened = tt; seen = part.seen; wrote = reached_next known script.vbuckets s.log what (s.client c).wrote (fits d (mutate d k what) may).2 (holds.client c).wrote }
  own_then (define d k i deferred def) c of may =
      let part = part_then (define d k i deferred def) c in
      let fit = (fits d (define d k i deferred def) may).2 in
      cond_both deferred _ _ (IsPart high (made_then (define d k i deferred def)))
      (λ yes. record { opened = tt; seen = part.seen; wrote = part.wrote })
      (λ no. record { opened = ((omega (arith, fit.0, length_push s.defs def), tt), reached_self known high); seen = part.seen; wrote = part.wrote })
  own_then (build d k indexes) c of may =
      let part = holds.client c in
      record { opened = ((fits d (build d k indexes) may).2, reached_self known high); seen = part.seen; wrote = part.wrote }
  own_then (publish i at) c of may = absurd cc
  own_then (start d k i demand) c of may =
      let part = holds.client c in
      record { opened = ((fits d (start d k i demand) may).2.0, reached_self known high); seen = part.seen; wrote = part.wrote }
  own_then (answer d k at) c of may =
      let part = holds.client c in
      record { opened = tt; seen = reached_join known high (s.client c).seen at part.seen (answers at (s.client d).opened may.0.1); wrote = part.wrote }
  own_then (pick d k at) c of may =
      let part = holds.client c in
      let reached = answers at (s.client d).opened may.0.1 in
      let begins : index_in (s.client c).opened < made =
      subst (λ x. index_in (s.client x).opened < made) (of_one c d of) (begun at (s.client d).opened may.0.1 (holds.client d).opened) in
      record { opened = (begins, reached); seen = reached_join known high (s.client c).seen at part.seen reached; wrote = part.wrote }
  own_then (fetch d k at fetched) c of may =
      let part = holds.client c in
      let both = fetches at fetched (s.client d).opened may.1 (holds.client d).opened in
      record {
        opened = tt;
        seen = reached_join known high (join (s.client c).seen at) fetched (reached_join known high (s.client c).seen at part.seen both.0) both.1;
        wrote = part.wrote;
      }
  own_then (removed d k i) c of may = let part = holds.client c in record { opened = tt; seen = part.seen; wrote = part.wrote }
  own_then (online d k indexes) c of may = let part = holds.client c in record { opened = tt; seen = part.seen; wrote = part.wrote }
  own_then (not_yet d k have) c of may = let part = holds.client c in record { opened = tt; seen = part.seen; wrote = part.wrote }
  own_then (refuse d k number why) c of may = let part = holds.client c in record { opened = tt; seen = part.seen; wrote = part.wrote }

  pub consistent_next : (e : Event) → MayFollow read script s e → IsConsistent script.vbuckets (step script.vbuckets s e)
  consistent_next e may =
      record {
        log = log_then e may;
        made = few_then e may;
        live = live_then e may;
        defs = defs_then e may;
        published = published_then e may;
        unpublished = unpublished_then e may;
        client = λ c. cond_both (is_of c e) (own_step high (s.client c) e) (s.client c) (IsPart (high_then e) (made_then e)) (λ of. own_then e c of may) (λ other. part_then e c);
      }

module _ (known : Known) where
  pub consistent_first : (n : ℕ) → IsConsistent n (first_state n)
  consistent_first n =
      record {
        log = tt;
        made = omega arith;
        live = omega arith;
        defs = tt;
        published = λ i. reached_zeros known n;
        unpublished = λ i above. refl;
        client = λ c. record { opened = tt; seen = reached_zeros known n; wrote = reached_zeros known n };
      }

  pub consistent_from : (read : List ℕ → Read) (script : Script) (s : State) (events : List Event) → IsConsistent script.vbuckets s
      → IsLegalFrom read script s events → IsConsistent script.vbuckets (state_from script.vbuckets s events)
  consistent_from read script s [] holds legal = holds
  consistent_from read script s (e ∷ es) holds legal =
      consistent_from read script (step script.vbuckets s e) es (consistent_next known read script s holds e legal.0) legal.1
