-- Statements whose expressions can be evaluated, as those of a text can.
use Rattle.std.specs.Prelude.{List, IfSome, ⊤}
use Rattle.std.specs.List.{All}
use Rattle.n1ql_ast.specs.declared.expr.Expr.{Expr}
use Rattle.n1ql_ast.specs.declared.order.Order.{Order}
use Rattle.n1ql_ast.specs.declared.selection.Selection.{Selection}
use Rattle.n1ql_ast.specs.declared.term.Term.{Term}
use Rattle.n1ql_ast.specs.declared.term.Term.TheVariants as term
use Rattle.n1ql_ast.specs.declared.unnest.Unnest.{Unnest}
use Rattle.n1ql_ast.specs.Forms.{IsWellFormed}

abbrev pub IsEvaluableTerm : Term Expr → Type 0
IsEvaluableTerm (term.One value name given) = IsWellFormed value
IsEvaluableTerm _ = ⊤

-- each expression of the rows, of the result and of ORDER BY
pub record IsEvaluable (q : Selection Expr) : Type 0 where
  pub raw : IfSome q.raw IsWellFormed
  pub terms : All IsEvaluableTerm q.terms
  pub unnests : All (λ (u : Unnest Expr). IsWellFormed u.over) q.unnests
  pub filter : IfSome q.filter IsWellFormed
  pub orders : All (λ (o : Order Expr). IsWellFormed o.key) q.orders
