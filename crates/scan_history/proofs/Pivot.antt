-- An event of a client that may follow is the client's next event.
use Rattle.std.proofs.Common.{◌≡◌, ◌≢◌, ◌⊎◌, ◌↔◌, ℕ, Bool, true, false, List, [], ◌∷◌, Some, IsTrue, sym, ap, ◌∙◌, subst, inl, inr}
use Rattle.std.specs.Option.{option_map_or}
use Rattle.std.proofs.lemmas.Bool.{cond-true, cond-false, false_from_ne_true}
use Rattle.seq_vector.specs.Vectors.{IsCovered, covers}
use Rattle.vb_store.specs.Mutations.{high_of}
use Rattle.index_def.specs.LiveIndexes.{Live, numbered}
use Rattle.scan_history.specs.declared.script.Script.{Script}
use Rattle.scan_history.specs.declared.why.Why.{Why}
use Rattle.scan_history.specs.declared.why.Why.TheVariants.{Plain}
use Rattle.scan_history.specs.Events.{Event, mutate, define, build, online, publish, removed, start, answer, pick, fetch, not_yet, refuse, client_of}
use Rattle.scan_history.specs.Fold.{Opened, nothing, work, started, picked, State}
use Rattle.scan_history.specs.Readings.{Read}
use Rattle.scan_history.specs.First.{command_at}
use Rattle.scan_history.specs.Legal.{IsFirst, MayGoOnline, MayAnswer, MayNotYet, MayFetch, IsDropped, MayFollow, live_among, waits, is_covered_by_index}
use Rattle.scan_history.specs.NextEvent.{end_of_work, answered, decided, next_of_open, next_event}
use Rattle.scan_history.specs.Refusals as code
use Rattle.scan_history.proofs.Lists.{if_some}

some_is : (a b : ℕ) → Some a ≡ Some b → a ≡ b
some_is a b e = cc

module _ (tells : (have want : List ℕ) → IsTrue (covers have want) ↔ IsCovered want have) (read : List ℕ → Read) (script : Script) (s : State) (c : ℕ) where
  abbrev k : ℕ
  k = (s.client c).next

  abbrev gone : Event
  gone = refuse c k code.dropped Plain

  first : (e : Event) → IsFirst read script s c e → next_event read script s c ≡ Some e
  first e is = ap (next_of_open read script s c) is.0 ∙ is.1

  ended : (xs indexes : List ℕ) → indexes ≡ xs → indexes ≢ [] → end_of_work c k xs ≡ online c k indexes
  ended [] indexes same some = absurd (some same)
  ended (x ∷ xs) indexes same some = ap (online c k) (sym same)

  goes_online : (o : Opened) (indexes : List ℕ) → MayGoOnline s indexes o → next_of_open read script s c o ≡ Some (online c k indexes)
  goes_online nothing indexes h = absurd h
  goes_online (work numbers high) indexes h = ap Some (ended (live_among numbers s) indexes h.0 h.1)
  goes_online (started i demand high) indexes h = absurd h
  goes_online (picked i v) indexes h = absurd h

  on_live : (i : ℕ) (demand : List ℕ) (index : Live) → numbered i s.live ≡ Some index
      → option_map_or (λ (index : Live). decided script c k demand (s.published i)) (numbered i s.live) gone ≡ decided script c k demand (s.published i)
  on_live i demand index found = ap (λ o. option_map_or (λ (index : Live). decided script c k demand (s.published i)) o gone) found

  answers : (o : Opened) (at : List ℕ) → MayAnswer s at o → next_of_open read script s c o ≡ Some (answered script c k at)
  answers nothing at h = absurd h
  answers (work numbers high) at h = absurd h
  answers (started i demand high) at h =
      let found = if_some (numbered i s.live) (λ index. (at ≡ s.published i) × IsCovered demand at) h in
      let covered : covers (s.published i) demand ≡ true = (tells (s.published i) demand).1 (subst (IsCovered demand) found.2.0 found.2.1) in
      ap Some (on_live i demand found.0 found.1
      ∙ (cond-true (covers (s.published i) demand) (answered script c k (s.published i)) (not_yet c k (s.published i)) covered
      ∙ ap (answered script c k) (sym found.2.0)))
  answers (picked i v) at h = absurd h

  waits_still : (o : Opened) (wait : Bool) (have : List ℕ) → MayNotYet s wait have o → next_of_open read script s c o ≡ Some (not_yet c k have)
  waits_still nothing wait have h = absurd h
  waits_still (work numbers high) wait have h = absurd h
  waits_still (started i demand high) wait have h =
      let found = if_some (numbered i s.live) (λ index. (have ≡ s.published i) × (¬ IsCovered demand have) × ((wait ≡ false) ⊎ (¬ IsCovered demand high))) h in
      let short : covers (s.published i) demand ≡ false =
      false_from_ne_true (covers (s.published i) demand) (λ yes. found.2.1 (subst (IsCovered demand) (sym found.2.0) ((tells (s.published i) demand).0 yes))) in
      ap Some (on_live i demand found.0 found.1
      ∙ (cond-false (covers (s.published i) demand) (answered script c k (s.published i)) (not_yet c k (s.published i)) short
      ∙ ap (not_yet c k) (sym found.2.0)))
  waits_still (picked i v) wait have h = absurd h

  fetches : (o : Opened) (at fetched : List ℕ) → MayFetch (high_of script.vbuckets s.log) at fetched o → next_of_open read script s c o ≡ Some (fetch c k at fetched)
  fetches nothing at fetched h = absurd h
  fetches (work numbers high) at fetched h = absurd h
  fetches (started i demand high) at fetched h = absurd h
  fetches (picked i v) at fetched h = ap (λ (x : List ℕ). Some (fetch c k x (high_of script.vbuckets s.log))) (sym h.0) ∙ ap (λ (x : List ℕ). Some (fetch c k at x)) (sym h.1)

  dropped : (o : Opened) → IsDropped s o → next_of_open read script s c o ≡ Some gone
  dropped nothing h = absurd h
  dropped (work numbers high) h = ap (λ xs. Some (end_of_work c k xs)) h
  dropped (started i demand high) h = ap (λ o. Some (option_map_or (λ (index : Live). decided script c k demand (s.published i)) o gone)) h
  dropped (picked i v) h = absurd h

  -- an event of this client
  next_own : (e : Event) → client_of e ≡ Some c → MayFollow read script s e → next_event read script s c ≡ Some e
  next_own (mutate d j what) of may = first (mutate d j what) (subst (λ (x : ℕ). IsFirst read script s x (mutate d j what)) (some_is d c of) may)
  next_own (define d j i deferred def) of may =
      first (define d j i deferred def) (subst (λ (x : ℕ). IsFirst read script s x (define d j i deferred def)) (some_is d c of) may)
  next_own (build d j indexes) of may = first (build d j indexes) (subst (λ (x : ℕ). IsFirst read script s x (build d j indexes)) (some_is d c of) may)
  next_own (removed d j i) of may = first (removed d j i) (subst (λ (x : ℕ). IsFirst read script s x (removed d j i)) (some_is d c of) may)
  next_own (start d j i demand) of may = first (start d j i demand) (subst (λ (x : ℕ). IsFirst read script s x (start d j i demand)) (some_is d c of) may)
  next_own (publish i at) of may = absurd cc
  next_own (online d j indexes) of may =
      let same : d ≡ c = some_is d c of in
      let m = subst (λ (x : ℕ). (j ≡ (s.client x).next) × MayGoOnline s indexes (s.client x).opened) same may in
      goes_online (s.client c).opened indexes m.1 ∙ ap (λ (x : ℕ). Some (online c x indexes)) (sym m.0) ∙ ap (λ (x : ℕ). Some (online x j indexes)) (sym same)
  next_own (answer d j at) of may =
      let same : d ≡ c = some_is d c of in
      let m = subst (λ (x : ℕ). ((j ≡ (s.client x).next) × MayAnswer s at (s.client x).opened) × (is_covered_by_index (command_at script x j) ≡ true)) same may in
      answers (s.client c).opened at m.0.1 ∙ (ap (λ (x : ℕ). Some (answered script c x at)) (sym m.0.0)
      ∙ (ap Some (cond-true (is_covered_by_index (command_at script c j)) (answer c j at) (pick c j at) m.1) ∙ ap (λ (x : ℕ). Some (answer x j at)) (sym same)))
  next_own (pick d j at) of may =
      let same : d ≡ c = some_is d c of in
      let m = subst (λ (x : ℕ). ((j ≡ (s.client x).next) × MayAnswer s at (s.client x).opened) × (is_covered_by_index (command_at script x j) ≡ false)) same may in
      answers (s.client c).opened at m.0.1 ∙ (ap (λ (x : ℕ). Some (answered script c x at)) (sym m.0.0)
      ∙ (ap Some (cond-false (is_covered_by_index (command_at script c j)) (answer c j at) (pick c j at) m.1) ∙ ap (λ (x : ℕ). Some (pick x j at)) (sym same)))
  next_own (fetch d j at fetched) of may =
      let same : d ≡ c = some_is d c of in
      let m = subst (λ (x : ℕ). (j ≡ (s.client x).next) × MayFetch (high_of script.vbuckets s.log) at fetched (s.client x).opened) same may in
      fetches (s.client c).opened at fetched m.1 ∙ ap (λ (x : ℕ). Some (fetch c x at fetched)) (sym m.0) ∙ ap (λ (x : ℕ). Some (fetch x j at fetched)) (sym same)
  next_own (not_yet d j have) of may =
      let same : d ≡ c = some_is d c of in
      let m = subst (λ (x : ℕ). (j ≡ (s.client x).next) × MayNotYet s (waits (command_at script x j)) have (s.client x).opened) same may in
      waits_still (s.client c).opened (waits (command_at script c j)) have m.1 ∙ ap (λ (x : ℕ). Some (not_yet c x have)) (sym m.0) ∙ ap (λ (x : ℕ). Some (not_yet x j have)) (sym same)
  next_own (refuse d j number why) of may =
      let same : d ≡ c = some_is d c of in
      elim may [
        | inl is ↦ first (refuse d j number why) (subst (λ (x : ℕ). IsFirst read script s x (refuse d j number why)) same is)
        | inr was ↦
            let m = subst (λ (x : ℕ). (j ≡ (s.client x).next) × IsDropped s (s.client x).opened) same was.2 in
            dropped (s.client c).opened m.1 ∙ (ap (λ (x : ℕ). Some (refuse c x code.dropped Plain)) (sym m.0) ∙ (ap (λ (x : ℕ). Some (refuse x j code.dropped Plain)) (sym same)
            ∙ (ap (λ (x : ℕ). Some (refuse d j x Plain)) (sym was.0) ∙ ap (λ (w : Why). Some (refuse d j number w)) (sym was.1))))
      ]

pub next : (tells : (have want : List ℕ) → IsTrue (covers have want) ↔ IsCovered want have) (read : List ℕ → Read) (script : Script) (s : State) (e : Event) (c : ℕ)
    → client_of e ≡ Some c → MayFollow read script s e → next_event read script s c ≡ Some e
next tells read script s e c of may = next_own tells read script s c e of may
