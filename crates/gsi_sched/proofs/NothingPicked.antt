-- No request of a legal history is picked, as each is answered from its index alone.
use Rattle.std.proofs.Common.{◌≡◌, ℕ, Bool, true, false, List, [], ◌∷◌, ◌++◌, refl, sym, ap, ◌∙◌, subst, append_assoc, append-nil}
use Rattle.std.specs.Prelude.{⊤}
use Rattle.std.proofs.lemmas.Bool.{cond_both, true≢false}
use Rattle.vb_store.specs.Mutations.{high_of}
use Rattle.scan_history.specs.declared.script.Script.{Script}
use Rattle.scan_history.specs.Events.{Event, mutate, define, build, online, publish, removed, start, answer, pick, fetch, not_yet, refuse}
use Rattle.scan_history.specs.First.{command_at}
use Rattle.scan_history.specs.Fold.{Opened, nothing, work, started, picked, Client, State, closed, own_step, is_of, state_after}
use Rattle.scan_history.specs.Legal.{MayAnswer, MayFollow, IsLegal, is_covered_by_index}
use Rattle.scan_history.specs.Readings.{Read}
use Rattle.gsi_hub.specs.declared.stage.Stage.{Stage}
use Rattle.gsi_hub.specs.declared.stage.Stage.TheVariants as stage
use Rattle.gsi_hub.specs.Stages.{stage_of}
use Rattle.gsi_sched.specs.inner.Known.{Known}
use Rattle.gsi_sched.specs.inner.ClientTurns.{IsWork, IsStarted}

-- ---- what a stage means

abbrev IsPicked : Opened → Type 0
IsPicked (picked i at) = ⊤
IsPicked _ = ⊥

abbrev pub Means : Opened → Bool → Stage → Type 0
Means o more stage.Ended = (o ≡ nothing) × (more ≡ false)
Means o more stage.Idle = (o ≡ nothing) × (more ≡ true)
Means o more stage.Work = IsWork o
Means o more (stage.Started i) = IsStarted o (λ j. j ≡ i)
Means o more (stage.Picked i) = IsPicked o

means : (o : Opened) (more : Bool) → Means o more (stage_of o more)
means nothing true = (refl, refl)
means nothing false = (refl, refl)
means (work indexes high) more = tt
means (started i demand high) more = refl
means (picked i at) more = tt

pub stage_means : (o : Opened) (more : Bool) (st : Stage) → st ≡ stage_of o more → Means o more st
stage_means o more st is = subst (Means o more) (sym is) (means o more)

-- ---- nothing is picked

abbrev pub IsUnpicked : Opened → Type 0
IsUnpicked (picked i at) = ⊥
IsUnpicked _ = ⊤

pub picks_nothing : (o : Opened) → IsUnpicked o → IsPicked o → ⊥
picks_nothing (picked i at) un is = un
picks_nothing nothing un is = is
picks_nothing (work indexes high) un is = is
picks_nothing (started i demand high) un is = is

abbrev NonePicked : State → Type 0
NonePicked s = (c : ℕ) → IsUnpicked (s.client c).opened

module _ (known : Known) (script : Script) where
  abbrev n : ℕ
  n = script.vbuckets

  -- a request that is open is a scan
  is_scan : (events : List Event) (c : ℕ) (at : List ℕ) (o : Opened) → IsLegal script events → ((state_after n events).client c).opened ≡ o → MayAnswer (state_after n events) at o
      → is_covered_by_index (command_at script c ((state_after n events).client c).next) ≡ true
  is_scan events c at (started i demand since) legal opened may =
      let asked = known.asked script events c i demand since legal opened in
      ap is_covered_by_index asked.command
  is_scan events c at nothing legal opened may = absurd may
  is_scan events c at (work indexes high) legal opened may = absurd may
  is_scan events c at (picked i v) legal opened may = absurd may

  own_unpicked : (events : List Event) (read : List ℕ → Read) (e : Event) (part : Client) (high : List ℕ) → IsLegal script events → MayFollow read script (state_after n events) e
      → IsUnpicked part.opened → IsUnpicked (own_step high part e).opened
  own_unpicked events read (mutate c k what) part high legal may un = tt
  own_unpicked events read (define c k i deferred def) part high legal may un =
      cond_both deferred (closed part) (record part { opened = work (i ∷ []) high }) (λ (p : Client). IsUnpicked p.opened) (λ yes. tt) (λ no. tt)
  own_unpicked events read (build c k indexes) part high legal may un = tt
  own_unpicked events read (online c k indexes) part high legal may un = tt
  own_unpicked events read (publish i at) part high legal may un = un
  own_unpicked events read (removed c k i) part high legal may un = tt
  own_unpicked events read (start c k i demand) part high legal may un = tt
  own_unpicked events read (answer c k at) part high legal may un = tt
  own_unpicked events read (pick c k at) part high legal may un =
      let scan = is_scan events c at ((state_after n events).client c).opened legal refl may.0.1 in
      absurd (true≢false (sym scan ∙ (ap (λ k. is_covered_by_index (command_at script c k)) (sym may.0.0) ∙ may.1)))
  own_unpicked events read (fetch c k at fetched) part high legal may un = tt
  own_unpicked events read (not_yet c k have) part high legal may un = tt
  own_unpicked events read (refuse c k number why) part high legal may un = tt

  one_on : (events : List Event) (e : Event) → IsLegal script (events ++ e ∷ []) → NonePicked (state_after n events) → NonePicked (state_after n (events ++ e ∷ []))
  one_on events e legal un =
      let s = state_after n events in
      let before = known.legal_before script events (e ∷ []) legal in
      let may = known.followed script events e legal known.some_read.0 known.some_read.1 in
      subst NonePicked (sym (known.below.one_more n events e))
      (λ c. cond_both (is_of c e) (own_step (high_of n s.log) (s.client c) e) (s.client c) (λ (p : Client). IsUnpicked p.opened)
      (λ own. own_unpicked events known.some_read.0 e (s.client c) (high_of n s.log) before may (un c)) (λ other. un c))

  on : (done more : List Event) → IsLegal script (done ++ more) → NonePicked (state_after n done) → NonePicked (state_after n (done ++ more))
  on done [] legal un = subst (λ events. NonePicked (state_after n events)) (sym (append-nil done)) un
  on done (e ∷ more) legal un =
      let same : (done ++ e ∷ []) ++ more ≡ done ++ e ∷ more = append_assoc done (e ∷ []) more in
      let legal_on : IsLegal script ((done ++ e ∷ []) ++ more) = subst (IsLegal script) (sym same) legal in
      subst (λ events. NonePicked (state_after n events)) same
      (on (done ++ e ∷ []) more legal_on (one_on done e (known.legal_before script (done ++ e ∷ []) more legal_on) un))

  at_first : NonePicked (state_after n [])
  unfolding state_after
  at_first c = tt

  pub nothing_is_picked : (events : List Event) → IsLegal script events → (c : ℕ) → IsUnpicked ((state_after n events).client c).opened
  nothing_is_picked events legal = on [] events legal at_first
