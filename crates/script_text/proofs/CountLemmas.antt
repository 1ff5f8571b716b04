-- The counts of mutations are the newest numbers.
use Rattle.std.proofs.Common.{◌≡◌, ℕ, ◌+◌, ◌<◌, ◌≤◌, List, [], ◌∷◌, ◌++◌, length, get_or, set, take, fold, refl, ap, sym, ◌∙◌, arith, length-append}
use Rattle.std.proofs.lemmas.List.Sums.{fold_more}
use Rattle.vb_store.specs.declared.mutation.Mutation.{Mutation}
use Rattle.vb_store.specs.Mutations.{high_of}
use Rattle.scan_history.specs.Events.{Event, mutate, define, build, online, publish, removed, start, answer, pick, fetch, not_yet, refuse}
use Rattle.scan_history.specs.Fold.{State, first_state, step, log_step, state_after}
use Rattle.script_text.specs.Counts.{counted}

-- what the laws of the newest numbers say
abbrev pub RaisesNext : ℕ → Type 0
RaisesNext n = (log : List Mutation) (m : Mutation) → high_of n (log ++ m ∷ []) ≡ set (high_of n log) m.vb (get_or (high_of n log) m.vb 0 + 1)

counted-step : (n : ℕ) → RaisesNext n → (log : List Mutation) (e : Event) → high_of n (log_step log e) ≡ counted (high_of n log) e
counted-step n raises log (mutate c k what) = raises log what
counted-step n raises log (define c k i deferred def) = refl
counted-step n raises log (build c k indexes) = refl
counted-step n raises log (online c k indexes) = refl
counted-step n raises log (publish i at) = refl
counted-step n raises log (removed c k i) = refl
counted-step n raises log (start c k i demand) = refl
counted-step n raises log (answer c k at) = refl
counted-step n raises log (pick c k at) = refl
counted-step n raises log (fetch c k at fetched) = refl
counted-step n raises log (not_yet c k have) = refl
counted-step n raises log (refuse c k code why) = refl

-- the log that events leave
abbrev pub log_of : List Event → List Mutation
log_of events = fold log_step [] events

-- the counts after one more event
pub counted-more : (n : ℕ) → RaisesNext n → (events : List Event) (i : ℕ) (e : Event) (old new : List ℕ) → i < length events → e ≡ get_or events i e
    → old ≡ high_of n (log_of (take i events)) → new ≡ counted old e → new ≡ high_of n (log_of (take (i + 1) events))
counted-more n raises events i e old new lt is h g =
    g ∙ (ap (λ v. counted v e) h ∙ (sym (counted-step n raises (log_of (take i events)) e)
    ∙ (ap (λ (x : Event). high_of n (log_step (log_of (take i events)) x)) is ∙ ap (high_of n) (sym (fold_more log_step [] events i e lt)))))

one_event : (log : List Mutation) (e : Event) → length (log_step log e) ≤ length log + 1
one_event log (mutate c k what) = omega (arith, length-append log (what ∷ []))
one_event log (define c k i deferred def) = omega arith
one_event log (build c k indexes) = omega arith
one_event log (online c k indexes) = omega arith
one_event log (publish i at) = omega arith
one_event log (removed c k i) = omega arith
one_event log (start c k i demand) = omega arith
one_event log (answer c k at) = omega arith
one_event log (pick c k at) = omega arith
one_event log (fetch c k at fetched) = omega arith
one_event log (not_yet c k have) = omega arith
one_event log (refuse c k code why) = omega arith

length-log : (log : List Mutation) (events : List Event) → length (fold log_step log events) ≤ length log + length events
length-log log [] = omega arith
length-log log (e ∷ events) = omega (arith, length-log (log_step log e) events, one_event log e)

-- the events leave at most as many mutations as there are events
pub few_mutations : (events : List Event) → length (log_of events) ≤ length events
few_mutations events = omega (arith, length-log [] events)

log_from : (n : ℕ) (s : State) (events : List Event) → (fold (step n) s events).log ≡ fold log_step s.log events
log_from n s [] = refl
log_from n s (e ∷ events) = log_from n (step n s e) events

pub state_after-log : (n : ℕ) (events : List Event) → (state_after n events).log ≡ log_of events
unfolding state_after
state_after-log n events = log_from n (first_state n) events
