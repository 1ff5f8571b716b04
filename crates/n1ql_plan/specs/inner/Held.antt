-- What the planner holds on its way: the index that goes first so far, and how another is set against it.
use Rattle.std.specs.Prelude.{◌&&◌, Option, Some, None, option_map, if◌then◌else◌}
use Rattle.std.specs.Ordering.{is_gt}
use Rattle.n1ql_ast.specs.declared.expr.Expr.{Expr}
use Rattle.n1ql_ast.specs.declared.selection.Selection.{Selection}
use Rattle.index_def.specs.LiveIndexes.{Live}
use Rattle.n1ql_spans.specs.Choice.{Candidate, candidate_cmp, is_allowed}
use Rattle.n1ql_spans.specs.Fits.{fit_of}
use Rattle.n1ql_plan.specs.Plans.{may_serve}
use Rattle.n1ql_plan.specs.declared.choice.Choice.{Choice}

abbrev pub held_of : Choice → Candidate
held_of c = record { number = c.index.now.number; def = c.index.now.def; fit = c.fit }

abbrev pub held_in : Option Choice → Option Candidate
held_in best = option_map held_of best

-- a live index by itself, where it has part in the choice and qualifies
abbrev pub candidate_in : Selection Expr → Live → Option Candidate
candidate_in q index =
    (if may_serve index && is_allowed q index.def
    then option_map (λ fit. record { number = index.number; def = index.def; fit = fit }) (fit_of q index.def)
    else None)

-- the one that goes first, where there are both
abbrev pub better_of : Option Candidate → Option Candidate → Option Candidate
better_of (Some one) (Some other) = Some (if is_gt (candidate_cmp one other) then other else one)
better_of (Some one) None = Some one
better_of None rest = rest
