use Rattle.std.proofs.Common.{◌≡◌, ℕ, List, [], ◌∷◌, length, map, Option, Some, None, refl, sym, ap, ap₂, ◌∙◌, subst}
use Rattle.std.specs.List.{AllByRecursion}
use Rattle.vb_store.specs.declared.mutation.Mutation.{Mutation}
use Rattle.vb_store.specs.Mutations.{high_of}
use Rattle.index_def.specs.LiveIndexes.{numbered}
use Rattle.scan_history.specs.declared.script.Script.{Script}
use Rattle.scan_history.specs.Events.{Event, publish, client_of}
use Rattle.scan_history.specs.Fold.{State, first_state, step}
use Rattle.scan_history.specs.Readings.{Read}
use Rattle.scan_history.specs.Legal.{GoesOn, MayFollow, IsLegalFrom}
use Rattle.scan_history.specs.Marks.{publication_of, mark_of, IsSizedPublication}
use Rattle.scan_history.proofs.Lists.{if_some}
use Rattle.scan_history.proofs.laws.marks_tell_events.Goals as goal

same_pair : (a b : ℕ × List ℕ) → Some a ≡ Some b → a ≡ b
same_pair a b same = cc

-- publications of one index at one vector
one_publication : (e other : Event) → client_of e ≡ None → client_of other ≡ None → publication_of e ≡ publication_of other → e ≡ other
one_publication (publish i at) (publish j v) none also same =
    let pair = same_pair (i, at) (j, v) same in
    ap₂ publish (ap (λ p. p.0) pair) (ap (λ p. p.1) pair)
one_publication (publish i at) _ none also same = absurd cc
one_publication _ other none also same = absurd cc

module _
    (one : (read : List ℕ → Read) (script : Script) (s : State) (e other : Event) (c : ℕ) → client_of e ≡ Some c → client_of other ≡ Some c → MayFollow read script s e → MayFollow read script s other → e ≡ other)
    (read : List ℕ → Read) (script : Script) where
  told : (s : State) (e other : Event) (c : Option ℕ) → client_of e ≡ c → mark_of e ≡ mark_of other → MayFollow read script s e → MayFollow read script s other → e ≡ other
  told s e other None of same may too = one_publication e other of (sym (ap (λ m. m.0) same) ∙ of) (ap (λ m. m.1) same)
  told s e other (Some c) of same may too = one read script s e other c of (sym (ap (λ m. m.0) same) ∙ of) may too

  all_told : (s : State) (events others : List Event) → IsLegalFrom read script s events → IsLegalFrom read script s others → map mark_of events ≡ map mark_of others → events ≡ others
  all_told s [] [] legal too same = refl
  all_told s [] (x ∷ xs) legal too same = absurd cc
  all_told s (e ∷ es) [] legal too same = absurd cc
  all_told s (e ∷ es) (x ∷ xs) legal too same =
      let head : mark_of e ≡ mark_of x = cc in
      let tail : map mark_of es ≡ map mark_of xs = cc in
      let first : e ≡ x = told s e x (client_of e) refl head legal.0 too.0 in
      let rest = subst (λ y. IsLegalFrom read script (step script.vbuckets s y) xs) (sym first) too.1 in
      ap₂ ◌∷◌ first (all_told (step script.vbuckets s e) es xs legal.1 rest tail)

pub returns-clause-event : goal.returns-clause-event
returns-clause-event c read script s e other same may too = told c.one_next_event.ensures.one read script s e other (client_of e) refl same may too

pub returns-clause-history : goal.returns-clause-history
returns-clause-history c script events others legal too same =
    let some = c.texts_are_read_in_one_way.ensures.some in
    all_told c.one_next_event.ensures.one some.0 script (first_state script.vbuckets) events others (legal some.0 some.1) (too some.0 some.1) same

module _ (size : (n : ℕ) (log : List Mutation) → length (high_of n log) ≡ n) (read : List ℕ → Read) (script : Script) where
  sized : (s : State) (e : Event) → MayFollow read script s e → IsSizedPublication script.vbuckets e
  sized s (publish i at) may =
      (if_some (numbered i s.live) (GoesOn (high_of script.vbuckets s.log) (s.published i) at) may).2.size ∙ size script.vbuckets s.log
  sized s _ may = tt

  all_sized : (s : State) (events : List Event) → IsLegalFrom read script s events → AllByRecursion (IsSizedPublication script.vbuckets) events
  all_sized s [] legal = tt
  all_sized s (e ∷ es) legal = (sized s e legal.0, all_sized (step script.vbuckets s e) es legal.1)

pub returns-clause-sizes : goal.returns-clause-sizes
returns-clause-sizes c script events legal =
    let some = c.texts_are_read_in_one_way.ensures.some in
    all_sized c.high_counts.ensures.size some.0 script (first_state script.vbuckets) events (legal some.0 some.1)
