-- The choice among live indexes goes from the last to the first: each is set against the one that goes first of those behind it.
use Rattle.std.proofs.Common.{◌≡◌, ℕ, zero, suc, ◌+◌, ◌-◌, ◌<◌, Bool, true, false, cond, ◌&&◌, List, [], ◌∷◌, map, drop, slice_get, Option, Some, None, option_map, refl, sym, ap, ap₂, ◌∙◌, arith}
use Rattle.std.specs.List.{cons_option, filter, filter_map}
use Rattle.std.specs.Option.{unwrap_or}
use Rattle.std.specs.Ordering.{is_gt}
use Rattle.sorted_lists.specs.SortedLists.{insert_sorted, sort_of}
use Rattle.n1ql_ast.specs.declared.expr.Expr.{Expr}
use Rattle.n1ql_ast.specs.declared.selection.Selection.{Selection}
use Rattle.index_def.specs.declared.definition.IndexDef.{IndexDef}
use Rattle.index_def.specs.LiveIndexes.{Live}
use Rattle.n1ql_spans.specs.declared.fits.Fit.{Fit}
use Rattle.n1ql_spans.specs.Choice.{Candidate, candidate_cmp, candidates_of, choice_of, is_allowed}
use Rattle.n1ql_spans.specs.Fits.{fit_of}
use Rattle.n1ql_plan.specs.Plans.{may_serve, serving}
use Rattle.n1ql_plan.specs.inner.Held.{candidate_in, better_of}

-- what is left from a place on begins with the element there
dropped_at : {X : Type 0} (xs : List X) (at : ℕ) (x : X) → Some x ≡ slice_get xs at → drop at xs ≡ x ∷ drop (suc at) xs
dropped_at [] at x here = absurd cc
dropped_at (y ∷ ys) zero x here = ap (λ (z : Option _). unwrap_or (option_map (λ w. w ∷ ys) z) []) (sym here)
dropped_at (y ∷ ys) (suc at) x here = dropped_at ys at x here

first_put : (b : Bool) (a c : Candidate) (xs ys : List Candidate) → slice_get (cond b (c ∷ xs) (a ∷ ys)) zero ≡ Some (cond b c a)
first_put true a c xs ys = refl
first_put false a c xs ys = refl

-- from a place on where nothing stands nothing is left
none_dropped : {X : Type 0} (xs : List X) (at : ℕ) → None ≡ slice_get xs at → (drop at xs ≡ []) × (drop (suc at) xs ≡ [])
none_dropped [] zero here = (refl, refl)
none_dropped [] (suc at) here = (refl, refl)
none_dropped (y ∷ ys) zero here = absurd cc
none_dropped (y ∷ ys) (suc at) here = none_dropped ys at here

before_suc : (at : ℕ) → suc at - 1 ≡ at
before_suc at = omega arith

-- the first of a sorted list, once one more is put in its place
first_inserted : (a : Candidate) (cs : List Candidate) → slice_get (insert_sorted candidate_cmp a cs) zero ≡ better_of (Some a) (slice_get cs zero)
first_inserted a [] = refl
first_inserted a (c ∷ cs) = first_put (is_gt (candidate_cmp a c)) a c (insert_sorted candidate_cmp a cs) (c ∷ cs)

first_with : (found : Option Candidate) (cs : List Candidate)
    → slice_get (sort_of candidate_cmp (cons_option found cs)) zero ≡ better_of found (slice_get (sort_of candidate_cmp cs) zero)
first_with None cs = refl
first_with (Some a) cs = first_inserted a (sort_of candidate_cmp cs)

module _ (q : Selection Expr) where
  abbrev candidate_of : ℕ × IndexDef → Option Candidate
  candidate_of p = option_map (λ fit. let c : Candidate = record { number = p.0; def = p.1; fit = fit } in c) (fit_of q p.1)

  -- one more index that is allowed, or isn't
  choice_with : (allowed : Bool) (p : ℕ × IndexDef) (ps : List (ℕ × IndexDef))
      → slice_get (sort_of candidate_cmp (filter_map candidate_of (cond allowed (p ∷ ps) ps))) zero
      ≡ better_of (cond allowed (candidate_of p) None) (slice_get (sort_of candidate_cmp (filter_map candidate_of ps)) zero)
  choice_with true p ps = first_with (candidate_of p) (filter_map candidate_of ps)
  choice_with false p ps = refl

  -- one more live index that has part in the choice, or hasn't
  choice_past : (serves : Bool) (index : Live) (rest : List Live)
      → choice_of q (map (λ (i : Live). (i.number, i.def)) (cond serves (index ∷ filter may_serve rest) (filter may_serve rest)))
      ≡ better_of (cond (serves && is_allowed q index.def) (candidate_of (index.number, index.def)) None) (choice_of q (serving rest))
  choice_past true index rest =
      choice_with (is_allowed q index.def) (index.number, index.def) (filter (λ (p : ℕ × IndexDef). is_allowed q p.1) (serving rest))
  choice_past false index rest = refl

  pub choice_next : (index : Live) (rest : List Live) → choice_of q (serving (index ∷ rest)) ≡ better_of (candidate_in q index) (choice_of q (serving rest))
  choice_next index rest = choice_past (may_serve index) index rest

  -- from a place on: the index there, set against those behind it
  pub choice_at : (live : List Live) (at : ℕ) (index : Live) → Some index ≡ slice_get live at
      → choice_of q (serving (drop at live)) ≡ better_of (candidate_in q index) (choice_of q (serving (drop (suc at) live)))
  choice_at live at index here = ap (λ rest. choice_of q (serving rest)) (dropped_at live at index here) ∙ choice_next index (drop (suc at) live)

  -- the place before this one: the index there, set against those from here on
  pub choice_before : (live : List Live) (at : ℕ) (index : Live) (found best better : Option Candidate) → 0 < at → Some index ≡ slice_get live (at - 1)
      → found ≡ candidate_in q index → best ≡ choice_of q (serving (drop at live)) → better ≡ better_of found best
      → better ≡ choice_of q (serving (drop (at - 1) live))
  choice_before live zero index found best better before here is behind made = absurd (omega arith)
  choice_before live (suc at) index found best better before here is behind made =
      made
      ∙ (ap₂ better_of is behind
      ∙ (sym (choice_at live at index (here ∙ ap (slice_get live) (before_suc at)))
      ∙ ap (λ n. choice_of q (serving (drop n live))) (sym (before_suc at))))

  pub choice_past_all : (live : List Live) (at : ℕ) (best : Option Candidate) → 0 < at → None ≡ slice_get live (at - 1)
      → best ≡ choice_of q (serving (drop at live)) → best ≡ choice_of q (serving (drop (at - 1) live))
  choice_past_all live zero best before here behind = absurd (omega arith)
  choice_past_all live (suc at) best before here behind =
      let none = none_dropped live at (here ∙ ap (slice_get live) (before_suc at)) in
      behind ∙ (ap (λ rest. choice_of q (serving rest)) (none.1 ∙ sym none.0) ∙ ap (λ n. choice_of q (serving (drop n live))) (sym (before_suc at)))
