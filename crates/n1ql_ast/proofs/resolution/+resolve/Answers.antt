use Rattle.std.proofs.Common.{◌≡◌, map, Some, None, ap, ◌∙◌, rules, arith}
use Rattle.n1ql_ast.specs.declared.expr.Expr.TheVariants as expr
use Rattle.n1ql_ast.specs.declared.unresolved_expr.UnresolvedExpr.{the_lemmas}
use Rattle.n1ql_ast.specs.declared.unresolved_expr.UnresolvedExpr.TheVariants as unresolved
use Rattle.n1ql_ast.specs.Names.{resolved}
use Rattle.n1ql_ast.proofs.Resolved.{call_resolved, list_resolved, build_resolved, case_resolved, case_else_resolved}
use Rattle.n1ql_ast.proofs.resolution.+resolve.Goals as goal

pub resolve-returns-in_ok-parts-in-Call-clause-expr : goal.resolve-returns-in_ok-parts-in-Call-clause-expr
resolve-returns-in_ok-parts-in-Call-clause-expr t c = let e = call_resolved c.in-Call.fun c.in-Call.xs c.args.scope.now in first_of (search rules, grind (arith, call_resolved))

pub resolve-returns-in_ok-parts-in-List-clause-expr : goal.resolve-returns-in_ok-parts-in-List-clause-expr
resolve-returns-in_ok-parts-in-List-clause-expr t c = let e = list_resolved c.in-List.xs c.args.scope.now in first_of (search rules, cc, grind (arith, list_resolved))

pub resolve-returns-in_ok-parts-in-Build-clause-expr : goal.resolve-returns-in_ok-parts-in-Build-clause-expr
resolve-returns-in_ok-parts-in-Build-clause-expr t c = let e = build_resolved c.in-Build.names c.in-Build.xs c.args.scope.now in first_of (search rules, cc, grind (arith, build_resolved))

pub resolve-returns-in_ok-parts-in-Case-default-default-None-2-clause-expr : goal.resolve-returns-in_ok-parts-in-Case-default-default-None-2-clause-expr
resolve-returns-in_ok-parts-in-Case-default-default-None-2-clause-expr t c =
    let a = c.in-Case-default-default-None in
    let p : c.args.unresolved.now ≡ unresolved.Case a.whens a.thens None = search (rules, the_lemmas) in
    let e : resolved c.args.unresolved.now c.args.scope.now
    ≡ expr.Case (map (λ x. resolved x c.args.scope.now) a.whens) (map (λ x. resolved x c.args.scope.now) a.thens) None
    = ap (λ q. resolved q c.args.scope.now) p ∙ case_resolved a.whens a.thens c.args.scope.now in
    first_of (search rules, search (rules, the_lemmas))

pub resolve-returns-in_ok-part-in-Case-default-default-Some-clause-expr : goal.resolve-returns-in_ok-part-in-Case-default-default-Some-clause-expr
resolve-returns-in_ok-part-in-Case-default-default-Some-clause-expr t c =
    let a = c.in-Case-default-default-Some in
    let p : c.args.unresolved.now ≡ unresolved.Case a.whens a.thens (Some a.other) = search (rules, the_lemmas) in
    let e : resolved c.args.unresolved.now c.args.scope.now
    ≡ expr.Case (map (λ x. resolved x c.args.scope.now) a.whens) (map (λ x. resolved x c.args.scope.now) a.thens) (Some (resolved a.other c.args.scope.now))
    = ap (λ q. resolved q c.args.scope.now) p ∙ case_else_resolved a.whens a.thens a.other c.args.scope.now in
    first_of (search rules, search (rules, the_lemmas))
