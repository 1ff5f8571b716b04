-- What a plan rests on.
use Rattle.std.specs.Prelude.{◌≡◌, Some, IsTrue}
use Rattle.n1ql_ast.specs.declared.expr.Expr.{Expr}
use Rattle.n1ql_ast.specs.declared.selection.Selection.{Selection}
use Rattle.n1ql_ast.specs.Conjunction.{conjuncts_in}
use Rattle.index_def.specs.LiveIndexes.{Live}
use Rattle.n1ql_spans.specs.declared.fits.Fit.{Fit}
use Rattle.n1ql_spans.specs.Fits.{fit_of}
use Rattle.n1ql_spans.specs.Spans.{spans_of}
use Rattle.n1ql_plan.specs.declared.query_plan.Plan.{Plan}
use Rattle.n1ql_plan.specs.Plans.{may_serve}

-- The plan reads this index, which has part in the choice and qualifies for the statement: the spans are the index's, and the plan tells
-- whether it covers.
pub record IsPlanOn (q : Selection Expr) (plan : Plan) (index : Live) : Type 0 where
  pub number : plan.index ≡ index.number
  pub serves : IsTrue (may_serve index)
  pub spans : plan.spans ≡ spans_of (conjuncts_in q.filter) index.def
  pub fit : Fit
  pub fits : fit_of q index.def ≡ Some fit
  pub covered : plan.covered ≡ fit.covered
