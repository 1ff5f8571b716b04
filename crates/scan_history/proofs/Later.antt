-- What holds of the live index of a number over a longer legal history, and of its publications.
use Rattle.std.proofs.Common.{ℕ, ◌<◌, ◌==◌, List, [], ◌∷◌, length, Option, Some, None, sym, ◌∙◌, subst, arith}
use Rattle.std.proofs.lemmas.Bool.{cond_both}
use Rattle.std.proofs.lemmas.Bool.Decides.{nat_tests}
use Rattle.seq_vector.specs.Vectors.{IsCovered}
use Rattle.vb_store.specs.Mutations.{high_of}
use Rattle.n1ql_value.specs.declared.state.State.TheVariants.{Building, Online}
use Rattle.index_def.specs.LiveIndexes.{Live, numbered, with_state, state_at_creation}
use Rattle.scan_history.specs.declared.script.Script.{Script}
use Rattle.scan_history.specs.Events.{Event, define, build, online, publish, removed}
use Rattle.scan_history.specs.Fold.{State, defs_step, live_step, published_step, step, state_from}
use Rattle.scan_history.specs.Readings.{Read}
use Rattle.scan_history.specs.Legal.{GoesOn, MayFollow, IsLegalFrom}
use Rattle.scan_history.specs.Consistent.{IsConsistent}
use Rattle.scan_history.proofs.Lists.{if_some, length_push}
use Rattle.scan_history.proofs.LiveLists.{still_pushed, still_all_changed, still_left}
use Rattle.scan_history.proofs.FirstActions.{first_fits}
use Rattle.scan_history.specs.inner.Known.{Known}
use Rattle.scan_history.proofs.Consistency.{of_one, consistent_next}

module _ (known : Known) (read : List ℕ → Read) (script : Script) where
  -- Holds goes by what is found of an index; it holds of none, and where the index begins to be built or goes online it still does.
  module _ (Holds : Option Live → Type 0) (i : ℕ) (gone : Holds None) (building : (x : Live) → Holds (Some x) → Holds (Some (with_state Building x))) (online_too : (x : Live) → Holds (Some x) → Holds (Some (with_state Online x))) where
    still_next : (s : State) (e : Event) → IsConsistent script.vbuckets s → MayFollow read script s e → i < length s.defs
        → Holds (numbered i s.live) → Holds (numbered i (live_step s.live e))
    still_next s (define c k j deferred def) holds may made h =
        let fit = (first_fits read script s holds.live c (define c k j deferred def) may.1).2 in
        still_pushed Holds i s.live (record { number = j; def = def; state = state_at_creation deferred }) (grind (arith, nat_tests, fit.0, made)) h
    still_next s (build c k indexes) holds may made h = still_all_changed Holds i Building building indexes s.live h
    still_next s (online c k indexes) holds may made h = still_all_changed Holds i Online online_too indexes s.live h
    still_next s (removed c k j) holds may made h = still_left Holds i gone j 0 (length s.defs) s.live holds.live h
    still_next s _ holds may made h = h

    made_next : (s : State) (e : Event) → i < length s.defs → i < length (defs_step s.defs e)
    made_next s (define c k j deferred def) made = omega (arith, made, length_push s.defs def)
    made_next s _ made = made

    pub still : (s : State) (events : List Event) → IsConsistent script.vbuckets s → IsLegalFrom read script s events → i < length s.defs
        → Holds (numbered i s.live) → Holds (numbered i (state_from script.vbuckets s events).live)
    still s [] holds legal made h = h
    still s (e ∷ es) holds legal made h =
        still (step script.vbuckets s e) es (consistent_next known read script s holds e legal.0) legal.1 (made_next s e made) (still_next s e holds legal.0 made h)

  -- publications go forth
  forth_next : (s : State) (e : Event) (i : ℕ) → MayFollow read script s e → IsCovered (s.published i) (published_step s.published e i)
  forth_next s (publish j at) i may =
      let found = if_some (numbered j s.live) (GoesOn (high_of script.vbuckets s.log) (s.published j) at) may in
      cond_both (i == j) at (s.published i) (IsCovered (s.published i))
      (λ is. subst (λ x. IsCovered (s.published x) at) (sym (of_one j i is)) found.2.forth)
      (λ other. known.reflexive (s.published i))
  forth_next s _ i may = known.reflexive (s.published i)

  pub forth : (s : State) (events : List Event) (i : ℕ) → IsConsistent script.vbuckets s → IsLegalFrom read script s events
      → IsCovered (s.published i) ((state_from script.vbuckets s events).published i)
  forth s [] i holds legal = known.reflexive (s.published i)
  forth s (e ∷ es) i holds legal =
      let next = consistent_next known read script s holds e legal.0 in
      known.transitive (s.published i) (published_step s.published e i) ((state_from script.vbuckets (step script.vbuckets s e) es).published i)
      ((holds.published i).size ∙ (known.high_size script.vbuckets s.log ∙ sym ((next.published i).size ∙ known.high_size script.vbuckets (step script.vbuckets s e).log)))
      (forth_next s e i legal.0) (forth (step script.vbuckets s e) es i next legal.1)
