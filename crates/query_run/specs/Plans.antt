-- The plan of a statement on an index that covers it.
use Rattle.std.specs.Prelude.{◌≡◌, true, Some}
use Rattle.n1ql_ast.specs.declared.expr.Expr.{Expr}
use Rattle.n1ql_ast.specs.declared.selection.Selection.{Selection}
use Rattle.n1ql_ast.specs.Conjunction.{conjuncts_in}
use Rattle.index_def.specs.declared.definition.IndexDef.{IndexDef}
use Rattle.n1ql_spans.specs.declared.fits.Fit.{Fit}
use Rattle.n1ql_spans.specs.Fits.{fit_of}
use Rattle.n1ql_spans.specs.Spans.{spans_of}
use Rattle.n1ql_plan.specs.declared.query_plan.Plan.{Plan}

-- its spans are the index's for the statement, and the index covers the statement
pub record IsCoveringPlan (plan : Plan) (q : Selection Expr) (def : IndexDef) : Type 0 where
  pub spans : plan.spans ≡ spans_of (conjuncts_in q.filter) def
  pub fit : Fit
  pub fits : fit_of q def ≡ Some fit
  pub covers : fit.covered ≡ true
