-- What the names of an unresolved expression mean.
use Rattle.std.specs.Prelude.{ℕ, true, List, [], ◌∷◌, ◌++◌, map, Option, Some, None, option_map, if◌then◌else◌}
use Rattle.std.specs.List.{list_any}
use Rattle.std.specs.Str.{bytes_eq}
use Rattle.n1ql_ast.specs.declared.expr.Expr.{Expr}
use Rattle.n1ql_ast.specs.declared.expr.Expr.TheVariants as expr
use Rattle.n1ql_ast.specs.declared.unresolved_expr.UnresolvedExpr.{UnresolvedExpr, fold-UnresolvedExpr}
use Rattle.n1ql_ast.specs.declared.unresolved_expr.UnresolvedExpr.TheOpen.{UnresolvedExpr-F}
use Rattle.n1ql_ast.specs.declared.scope.Scope.{Scope}

-- the scope in which nothing is bound
abbrev pub outermost : List ℕ → Scope
outermost alias = record { bound = []; alias = alias }

-- the scope inside an unresolved expression that binds a name
abbrev pub inside : List ℕ → Scope → Scope
inside name scope = record { bound = scope.bound ++ name ∷ []; alias = scope.alias }

-- a name is a bound one, else the document, else the field of that name of the document
abbrev pub name_in : Scope → List ℕ → Expr
name_in scope name =
    if list_any (bytes_eq name) scope.bound then expr.Var name
    else (if bytes_eq name scope.alias then expr.Doc else expr.Field expr.Doc name)

-- META is that of the document, by its name or by none
abbrev pub meta_in : Scope → Option (List ℕ) → Expr
meta_in scope None = expr.MetaOf true
meta_in scope (Some name) = expr.MetaOf (bytes_eq name scope.alias)

-- one level of an unresolved expression in a scope, given what its parts are in each scope
abbrev pub level_in : UnresolvedExpr-F (Scope → Expr) → Scope → Expr
level_in (UnresolvedExpr-F.Const v) s = expr.Const v
level_in (UnresolvedExpr-F.Name name) s = name_in s name
level_in (UnresolvedExpr-F.Meta name) s = meta_in s name
level_in (UnresolvedExpr-F.Field x name) s = expr.Field (x s) name
level_in (UnresolvedExpr-F.Place x at) s = expr.Place (x s) (at s)
level_in (UnresolvedExpr-F.Not x) s = expr.Not (x s)
level_in (UnresolvedExpr-F.Neg x) s = expr.Neg (x s)
level_in (UnresolvedExpr-F.Two op x y) s = expr.Two op (x s) (y s)
level_in (UnresolvedExpr-F.Is test x) s = expr.Is test (x s)
level_in (UnresolvedExpr-F.Among x y) s = expr.Among (x s) (y s)
level_in (UnresolvedExpr-F.Between x low high) s = expr.Between (x s) (low s) (high s)
level_in (UnresolvedExpr-F.Call fun xs) s = expr.Call fun (map (λ x. x s) xs)
level_in (UnresolvedExpr-F.List xs) s = expr.List (map (λ x. x s) xs)
level_in (UnresolvedExpr-F.Build names xs) s = expr.Build names (map (λ x. x s) xs)
level_in (UnresolvedExpr-F.Case whens thens other) s =
    expr.Case (map (λ x. x s) whens) (map (λ x. x s) thens) (option_map (λ x. x s) other)
level_in (UnresolvedExpr-F.Any name over test) s = expr.Any name (over s) (test (inside name s))
level_in (UnresolvedExpr-F.Every name over test) s = expr.Every name (over s) (test (inside name s))
level_in (UnresolvedExpr-F.Each name item over when) s =
    expr.Each name (item (inside name s)) (over s) (option_map (λ x. x (inside name s)) when)
level_in (UnresolvedExpr-F.First name item over when) s =
    expr.First name (item (inside name s)) (over s) (option_map (λ x. x (inside name s)) when)
level_in (UnresolvedExpr-F.Agg agg x) s = expr.Agg agg (option_map (λ x. x s) x)

-- the expression that an unresolved expression is in a scope
abbrev pub resolved : UnresolvedExpr → Scope → Expr
resolved = fold-UnresolvedExpr (Scope → Expr) level_in
