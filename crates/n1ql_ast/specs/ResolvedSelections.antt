-- What the names of a SELECT mean.
use Rattle.std.specs.Prelude.{List, [], ◌∷◌, map, option_map}
use Rattle.n1ql_ast.specs.declared.expr.Expr.{Expr}
use Rattle.n1ql_ast.specs.declared.order.Order.{Order}
use Rattle.n1ql_ast.specs.declared.scope.Scope.{Scope}
use Rattle.n1ql_ast.specs.declared.selection.Selection.{Selection}
use Rattle.n1ql_ast.specs.declared.term.Term.{Term}
use Rattle.n1ql_ast.specs.declared.term.Term.TheVariants.{All, Spread, One}
use Rattle.n1ql_ast.specs.declared.unnest.Unnest.{Unnest}
use Rattle.n1ql_ast.specs.declared.unresolved_expr.UnresolvedExpr.{UnresolvedExpr}
use Rattle.n1ql_ast.specs.Names.{inside, outermost, resolved}

abbrev pub term_in : Scope → Term UnresolvedExpr → Term Expr
term_in s All = All
term_in s (Spread name) = Spread name
term_in s (One value name given) = One (resolved value s) name given

abbrev pub order_in : Scope → Order UnresolvedExpr → Order Expr
order_in s o = record { key = resolved o.key s; desc = o.desc; alone = o.alone }

abbrev pub unnest_in : Scope → Unnest UnresolvedExpr → Unnest Expr
unnest_in s u = record { left = u.left; over = resolved u.over s; name = u.name }

-- an UNNEST sees the names of those before it alone
abbrev pub unnests_in : Scope → List (Unnest UnresolvedExpr) → List (Unnest Expr)
unnests_in s [] = []
unnests_in s (u ∷ more) = unnest_in s u ∷ unnests_in (inside u.name s) more

-- the scope that has the names of all of them
abbrev pub scope_behind : Scope → List (Unnest UnresolvedExpr) → Scope
scope_behind s [] = s
scope_behind s (u ∷ more) = scope_behind (inside u.name s) more

-- a SELECT whose UNNESTs are these, where all else is in this scope
abbrev pub select_in : Scope → List (Unnest Expr) → Selection UnresolvedExpr → Selection Expr
select_in s unnests q = record {
  distinct = q.distinct;
  raw = option_map (λ x. resolved x s) q.raw;
  terms = map (term_in s) q.terms;
  keyspace = q.keyspace;
  alias = q.alias;
  hint = q.hint;
  unnests = unnests;
  filter = option_map (λ x. resolved x s) q.filter;
  groups = map (λ x. resolved x s) q.groups;
  having = option_map (λ x. resolved x s) q.having;
  orders = map (order_in s) q.orders;
  limit = q.limit;
  offset = q.offset;
}

-- What an unresolved SELECT means: the names of its UNNESTs hide the document, which has the name of the alias.
abbrev pub resolved_select : Selection UnresolvedExpr → Selection Expr
resolved_select q = select_in (scope_behind (outermost q.alias) q.unnests) (unnests_in (outermost q.alias) q.unnests) q
