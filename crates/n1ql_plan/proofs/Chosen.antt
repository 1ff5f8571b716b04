-- What is chosen is the candidate of one of the live indexes.
use Rattle.std.proofs.Common.{◌≡◌, ◌⊎◌, inl, inr, ℕ, suc, Bool, true, false, ◌&&◌, cond, List, [], ◌∷◌, slice_get, Option, Some, None, option_map, IsTrue, refl, sym, ap, subst, ◌∙◌}
use Rattle.std.specs.Option.{unwrap_or}
use Rattle.std.specs.Ordering.{is_gt}
use Rattle.n1ql_ast.specs.declared.expr.Expr.{Expr}
use Rattle.n1ql_ast.specs.declared.selection.Selection.{Selection}
use Rattle.index_def.specs.LiveIndexes.{Live}
use Rattle.n1ql_spans.specs.declared.fits.Fit.{Fit}
use Rattle.n1ql_spans.specs.Choice.{Candidate, candidate_cmp, choice_of, is_allowed}
use Rattle.n1ql_spans.specs.Fits.{fit_of}
use Rattle.n1ql_plan.specs.declared.query_plan.Plan.{Plan}
use Rattle.n1ql_plan.specs.Planned.{IsPlanOn}
use Rattle.n1ql_plan.specs.Plans.{may_serve, plan_of, plan_with, serving}
use Rattle.n1ql_plan.specs.inner.Held.{better_of, candidate_in}
use Rattle.n1ql_plan.proofs.Choices.{choice_next}

one_of : (behind : Bool) (one other c : Candidate) → Some (cond behind other one) ≡ Some c → (Some one ≡ Some c) ⊎ (Some other ≡ Some c)
one_of true one other c is = inr is
one_of false one other c is = inl is

better_is : (a b : Option Candidate) (c : Candidate) → better_of a b ≡ Some c → (a ≡ Some c) ⊎ (b ≡ Some c)
better_is (Some one) (Some other) c is = one_of (is_gt (candidate_cmp one other)) one other c is
better_is (Some one) None c is = inl is
better_is None rest c is = inr is

-- what is a candidate, of an index that may be one
abbrev made : Live → Fit → Candidate
made index fit = record { number = index.number; def = index.def; fit = fit }

abbrev IsMade : Selection Expr → Live → Candidate → Type 0
IsMade q index c = IsTrue (may_serve index) × (fit : Fit) × (fit_of q index.def ≡ Some fit) × (made index fit ≡ c)

fitting : (index : Live) (q : Selection Expr) (found : Option Fit) (c : Candidate) → fit_of q index.def ≡ found → option_map (made index) found ≡ Some c
    → (fit : Fit) × (fit_of q index.def ≡ Some fit) × (made index fit ≡ c)
fitting index q None c fits is = absurd cc
fitting index q (Some fit) c fits is = (fit, fits, ap (λ o. unwrap_or o c) is)

serving_made : (index : Live) (q : Selection Expr) (serves allowed : Bool) (c : Candidate) → may_serve index ≡ serves
    → cond (serves && allowed) (option_map (made index) (fit_of q index.def)) None ≡ Some c → IsMade q index c
serving_made index q true true c serves is = let found = fitting index q (fit_of q index.def) c refl is in (serves, found.0, found.1, found.2)
serving_made index q true false c serves is = absurd cc
serving_made index q false allowed c serves is = absurd cc

candidate_made : (q : Selection Expr) (index : Live) (c : Candidate) → candidate_in q index ≡ Some c → IsMade q index c
candidate_made q index c is = serving_made index q (may_serve index) (is_allowed q index.def) c refl is

module _ (q : Selection Expr) (c : Candidate) where
  chosen : (live : List Live) → choice_of q (serving live) ≡ Some c → (index : Live) × ((k : ℕ) × (slice_get live k ≡ Some index)) × IsMade q index c
  chosen [] is = absurd cc
  chosen (index ∷ rest) is =
      elim (better_is (candidate_in q index) (choice_of q (serving rest)) c (sym (choice_next q index rest) ∙ is)) as (λ _. (i : Live) × ((k : ℕ) × (slice_get (index ∷ rest) k ≡ Some i)) × IsMade q i c) [
        | inl here ↦ (index, (0, refl), candidate_made q index c here)
        | inr there ↦ let found = chosen rest there in (found.0, (suc found.1.0, found.1.1), found.2)
      ]

plan_on : (q : Selection Expr) (index : Live) (c : Candidate) (plan : Plan) → plan_with q c ≡ plan → IsMade q index c → IsPlanOn q plan index
plan_on q index c plan is has =
    subst (λ (p : Plan). IsPlanOn q p index) (ap (plan_with q) has.3 ∙ is)
    (record { number = refl; serves = has.0; spans = refl; fit = has.1; fits = has.2; covered = refl })

planned_by : (q : Selection Expr) (live : List Live) (found : Option Candidate) (plan : Plan) → choice_of q (serving live) ≡ found
    → option_map (plan_with q) found ≡ Some plan → (index : Live) × ((k : ℕ) × (slice_get live k ≡ Some index)) × IsPlanOn q plan index
planned_by q live None plan found is = absurd cc
planned_by q live (Some c) plan found is =
    let one = chosen q c live found in
    (one.0, one.1, plan_on q one.0 c plan (ap (λ o. unwrap_or o plan) is) one.2)

pub planned : (q : Selection Expr) (live : List Live) (plan : Plan) → plan_of q live ≡ Some plan → (index : Live) × ((k : ℕ) × (slice_get live k ≡ Some index)) × IsPlanOn q plan index
planned q live plan is = planned_by q live (choice_of q (serving live)) plan refl is
