-- What a key of ORDER BY means.
use Rattle.std.specs.Prelude.{ℕ, true, List, Option, Some, None, unwrap_or, if◌then◌else◌}
use Rattle.std.specs.List.{fold}
use Rattle.std.specs.Option.{option_and_then, option_or}
use Rattle.std.specs.Str.{bytes_eq}
use Rattle.n1ql_ast.specs.declared.expr.Expr.{Expr}
use Rattle.n1ql_ast.specs.declared.order.Order.{Order}
use Rattle.n1ql_ast.specs.declared.selection.Selection.{Selection}
use Rattle.n1ql_ast.specs.declared.term.Term.{Term}
use Rattle.n1ql_ast.specs.declared.term.Term.TheVariants.{One}

-- the value of a term to which the statement itself gives this name
abbrev pub given_as : List ℕ → Term Expr → Option Expr
given_as name (One value (Some own) true) = (if bytes_eq name own then Some value else None)
given_as name _ = None

-- of several such terms that of the last one
abbrev pub last_given_as : List ℕ → List (Term Expr) → Option Expr
last_given_as name terms = fold (λ found t. option_or (given_as name t) found) None terms

-- a key that is written as a single name means the value of the term that is given this name, where there is one; any other key means
-- itself
abbrev pub order_key : Selection Expr → Order Expr → Expr
order_key q o = unwrap_or (option_and_then (λ name. last_given_as name q.terms) o.alone) o.key
