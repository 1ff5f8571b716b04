-- Which of the online indexes serves a statement.
use Rattle.std.specs.Prelude.{ℕ, Bool, true, List, slice_get, Option, option_map, bytes_eq, if◌then◌else◌}
use Rattle.std.specs.List.{filter, filter_map}
use Rattle.std.specs.Option.{option_map_or}
use Rattle.std.specs.Ordering.{nat_cmp, ordering_then}
use Rattle.std.specs.declared.cmp.Ordering.{Ordering}
use Rattle.sorted_lists.specs.SortedLists.{sort_of}
use Rattle.n1ql_ast.specs.declared.expr.Expr.{Expr}
use Rattle.n1ql_ast.specs.declared.selection.Selection.{Selection}
use Rattle.index_def.specs.declared.definition.IndexDef.{IndexDef}
use Rattle.n1ql_spans.specs.declared.fits.Fit.{Fit}
use Rattle.n1ql_spans.specs.Fits.{fit_of}

-- an index that qualifies: its number, its definition, and how well it fits
pub record Candidate : Type 0 where
  pub number : ℕ
  pub def : IndexDef
  pub fit : Fit

-- a covering one goes first, then one with more keys that have bounding conjuncts, then the least number
abbrev pub candidate_cmp : Candidate → Candidate → Ordering
candidate_cmp a b =
    ordering_then (nat_cmp (if a.fit.covered then 0 else 1) (if b.fit.covered then 0 else 1))
    (ordering_then (nat_cmp b.fit.ranged a.fit.ranged)
    (nat_cmp a.number b.number))

-- USE INDEX allows its index alone
abbrev pub is_allowed : Selection Expr → IndexDef → Bool
is_allowed q def = option_map_or (bytes_eq def.name) q.hint true

-- the indexes that are allowed and qualify, of those that are given by number
abbrev pub candidates_of : Selection Expr → List (ℕ × IndexDef) → List Candidate
candidates_of q online =
    filter_map (λ (p : ℕ × IndexDef). option_map (λ fit. let c : Candidate = record { number = p.0; def = p.1; fit = fit } in c) (fit_of q p.1))
    (filter (λ (p : ℕ × IndexDef). is_allowed q p.1) online)

-- the first of them
abbrev pub choice_of : Selection Expr → List (ℕ × IndexDef) → Option Candidate
choice_of q online = slice_get (sort_of candidate_cmp (candidates_of q online)) 0
