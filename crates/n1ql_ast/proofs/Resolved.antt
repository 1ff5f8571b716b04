-- What the forms of an unresolved expression that hold lists are in a scope.
use Rattle.std.specs.Prelude.{◌≡◌, ℕ, List, [], ◌∷◌, map, Some, None, refl}
use Rattle.std.proofs.Common.{sym, ap, ◌∙◌}
use Rattle.n1ql_value.specs.declared.fun.Fun.{Fun}
use Rattle.n1ql_ast.specs.declared.expr.Expr.{Expr}
use Rattle.n1ql_ast.specs.declared.expr.Expr.TheVariants as expr
use Rattle.n1ql_ast.specs.declared.unresolved_expr.UnresolvedExpr.{UnresolvedExpr, fold-roll-UnresolvedExpr}
use Rattle.n1ql_ast.specs.declared.unresolved_expr.UnresolvedExpr.TheVariants as unresolved
use Rattle.n1ql_ast.specs.declared.unresolved_expr.UnresolvedExpr.TheOpen.{UnresolvedExpr-F}
use Rattle.n1ql_ast.specs.declared.scope.Scope.{Scope}
use Rattle.n1ql_ast.specs.Names.{resolved, level_in}

pub maps_once : (g : UnresolvedExpr → Scope → Expr) (s : Scope) (xs : List UnresolvedExpr) → map (λ (f : Scope → Expr). f s) (map g xs) ≡ map (λ x. g x s) xs
maps_once g s [] = refl
maps_once g s (x ∷ xs) = ap (λ es. g x s ∷ es) (maps_once g s xs)

pub call_resolved : (fun : Fun) (xs : List UnresolvedExpr) (s : Scope) → resolved (unresolved.Call fun xs) s ≡ expr.Call fun (map (λ x. resolved x s) xs)
call_resolved fun xs s =
    ap (λ p. resolved p s) (sym (unresolved.rolls-Call fun xs))
    ∙ (ap (λ f. f s) (fold-roll-UnresolvedExpr (Scope → Expr) level_in (UnresolvedExpr-F.Call fun xs)) ∙ ap (expr.Call fun) (maps_once resolved s xs))

pub list_resolved : (xs : List UnresolvedExpr) (s : Scope) → resolved (unresolved.List xs) s ≡ expr.List (map (λ x. resolved x s) xs)
list_resolved xs s =
    ap (λ p. resolved p s) (sym (unresolved.rolls-List xs))
    ∙ (ap (λ f. f s) (fold-roll-UnresolvedExpr (Scope → Expr) level_in (UnresolvedExpr-F.List xs)) ∙ ap expr.List (maps_once resolved s xs))

pub build_resolved : (names : List (List ℕ)) (xs : List UnresolvedExpr) (s : Scope) → resolved (unresolved.Build names xs) s ≡ expr.Build names (map (λ x. resolved x s) xs)
build_resolved names xs s =
    ap (λ p. resolved p s) (sym (unresolved.rolls-Build names xs))
    ∙ (ap (λ f. f s) (fold-roll-UnresolvedExpr (Scope → Expr) level_in (UnresolvedExpr-F.Build names xs)) ∙ ap (expr.Build names) (maps_once resolved s xs))

pub case_resolved : (whens thens : List UnresolvedExpr) (s : Scope) →
    resolved (unresolved.Case whens thens None) s ≡ expr.Case (map (λ x. resolved x s) whens) (map (λ x. resolved x s) thens) None
case_resolved whens thens s =
    ap (λ p. resolved p s) (sym (unresolved.rolls-Case whens thens None))
    ∙ (ap (λ f. f s) (fold-roll-UnresolvedExpr (Scope → Expr) level_in (UnresolvedExpr-F.Case whens thens None))
    ∙ (ap (λ a. expr.Case a (map (λ (f : Scope → Expr). f s) (map resolved thens)) None) (maps_once resolved s whens)
    ∙ ap (λ a. expr.Case (map (λ x. resolved x s) whens) a None) (maps_once resolved s thens)))

pub case_else_resolved : (whens thens : List UnresolvedExpr) (x : UnresolvedExpr) (s : Scope) →
    resolved (unresolved.Case whens thens (Some x)) s ≡ expr.Case (map (λ x. resolved x s) whens) (map (λ x. resolved x s) thens) (Some (resolved x s))
case_else_resolved whens thens x s =
    ap (λ p. resolved p s) (sym (unresolved.rolls-Case whens thens (Some x)))
    ∙ (ap (λ f. f s) (fold-roll-UnresolvedExpr (Scope → Expr) level_in (UnresolvedExpr-F.Case whens thens (Some x)))
    ∙ (ap (λ a. expr.Case a (map (λ (f : Scope → Expr). f s) (map resolved thens)) (Some (resolved x s))) (maps_once resolved s whens)
    ∙ ap (λ a. expr.Case (map (λ x. resolved x s) whens) a (Some (resolved x s))) (maps_once resolved s thens)))
