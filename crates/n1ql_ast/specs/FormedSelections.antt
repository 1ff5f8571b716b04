-- The form of a SELECT: each expression in it can be evaluated, on a document or on a group, and its variables are bound around it.
use Rattle.std.specs.Prelude.{◌≡◌, ℕ, ◌<◌, ◌^◌, Bool, true, ◌&&◌, ◌||◌, List, [], ◌∷◌, ◌++◌, map, length, Some, None, IfSome, IsTrue, ⊤}
use Rattle.std.specs.List.{All}
use Rattle.n1ql_ast.specs.declared.expr.Expr.{Expr, fold-Expr, map-Expr}
use Rattle.n1ql_ast.specs.declared.order.Order.{Order}
use Rattle.n1ql_ast.specs.declared.selection.Selection.{Selection}
use Rattle.n1ql_ast.specs.declared.term.Term.{Term}
use Rattle.n1ql_ast.specs.declared.term.Term.TheVariants as term
use Rattle.n1ql_ast.specs.declared.unnest.Unnest.{Unnest}
use Rattle.n1ql_ast.specs.Bindings.{IsClosedIn}
use Rattle.n1ql_ast.specs.Forms.{IsWellFormed, is_no_aggregate, of_each_part}
use Rattle.n1ql_ast.specs.FormedStatements.{IsFormedIn}

-- Whether aggregates stand only where they may: nowhere where they may not, and none inside another.
abbrev pub has_aggregates_apart : Expr → Bool → Bool
has_aggregates_apart = fold-Expr (Bool → Bool) (λ l may.
    (is_no_aggregate l || may) && of_each_part (map-Expr (Bool → Bool) Bool (λ x. x (is_no_aggregate l && may)) l))

abbrev pub HasAggregatesApart : Expr → Type 0
HasAggregatesApart e = IsTrue (has_aggregates_apart e true)

-- an expression that can be evaluated on a group, where these names are bound around it
abbrev pub IsFormedOfGroup : List (List ℕ) → Expr → Type 0
IsFormedOfGroup names e = (IsWellFormed e × HasAggregatesApart e) × IsClosedIn names e

abbrev pub IsFormedTerm : List (List ℕ) → Term Expr → Type 0
IsFormedTerm names (term.One value name given) = IsFormedOfGroup names value
IsFormedTerm names _ = ⊤

-- an UNNEST may read the names of those before it alone
abbrev pub AreFormedUnnests : List (List ℕ) → List (Unnest Expr) → Type 0
AreFormedUnnests names [] = ⊤
AreFormedUnnests names (u ∷ more) = IsFormedIn names u.over × AreFormedUnnests (names ++ u.name ∷ []) more

abbrev pub unnest_names : List (Unnest Expr) → List (List ℕ)
unnest_names us = map (λ (u : Unnest Expr). u.name) us

-- so is each expression of a SELECT, where aggregates stand in the result, HAVING and ORDER BY alone; RAW stands for terms, HAVING
-- comes with GROUP BY, and LIMIT and OFFSET are below 2^63
pub record IsFormedSelect (q : Selection Expr) : Type 0 where
  pub raw : IfSome q.raw (IsFormedOfGroup (unnest_names q.unnests))
  pub terms : All (IsFormedTerm (unnest_names q.unnests)) q.terms
  pub none : IfSome q.raw (λ x. q.terms ≡ [])
  pub some : q.raw ≡ None → 0 < length q.terms
  pub unnests : AreFormedUnnests [] q.unnests
  pub filter : IfSome q.filter (IsFormedIn (unnest_names q.unnests))
  pub groups : All (IsFormedIn (unnest_names q.unnests)) q.groups
  pub having : IfSome q.having (IsFormedOfGroup (unnest_names q.unnests))
  pub grouped : q.groups ≡ [] → q.having ≡ None
  pub orders : All (λ (o : Order Expr). IsFormedOfGroup (unnest_names q.unnests) o.key) q.orders
  pub limit : IfSome q.limit (λ n. n < 2 ^ 63)
  pub offset : q.offset < 2 ^ 63
