use Rattle.std.proofs.Common.{◌≡◌, ◌==◌, ◌&&◌, Bool, List, length, map, Option, Some, None, sym, ap, ap₂, ◌∙◌}
use Rattle.std.specs.Option.{option_map}
use Rattle.n1ql_ast.specs.declared.expr.Expr.{Expr, fold-roll-Expr}
use Rattle.n1ql_ast.specs.declared.expr.Expr.TheOpen.{Expr-F}
use Rattle.n1ql_ast.specs.declared.expr.Expr.TheVariants as expr
use Rattle.n1ql_ast.specs.Forms.{all_hold, has_its_counts, held_if_any, is_well_formed, of_each_part}
use Rattle.n1ql_expr_tests.proofs.tests.+forms.Goals as goal

abbrev formed_step : Expr-F Bool → Bool
formed_step l = has_its_counts l && of_each_part l

abbrev same_counts : List Expr → List Expr → Bool
same_counts whens thens = length (map is_well_formed whens) == length (map is_well_formed thens)

abbrev each_formed : List Expr → Bool
each_formed es = all_hold (map is_well_formed es)

formed-Case : (whens : List Expr) (thens : List Expr) (other : Option Expr) → is_well_formed (expr.Case whens thens other) ≡ (same_counts whens thens && (each_formed whens && (each_formed thens && held_if_any (option_map is_well_formed other))))
formed-Case whens thens None = ap is_well_formed (sym (expr.rolls-Case whens thens None)) ∙ fold-roll-Expr Bool formed_step (Expr-F.Case whens thens None)
formed-Case whens thens (Some x) = ap is_well_formed (sym (expr.rolls-Case whens thens (Some x))) ∙ fold-roll-Expr Bool formed_step (Expr-F.Case whens thens (Some x))

both_same : (a b c d : Bool) → a ≡ c → b ≡ d → (a && b) ≡ (c && d)
both_same a b c d left right = ap₂ (λ (x y : Bool). x && y) left right

pub formed-returns-in-Case : goal.formed-returns-in-Case
formed-returns-in-Case t c =
    let whens = c.in-Case.whens in
    let thens = c.in-Case.thens in
    let other = held_if_any (option_map is_well_formed c.in-Case.other) in
    let counts : c.same_count.result ≡ same_counts whens thens = c.same_count.ensures ∙ ap₂ same_counts c.as_slice-in-Case.ensures c.as_slice-in-Case-2.ensures in
    let first : c.all_formed-in-Case.result ≡ each_formed whens = c.all_formed-in-Case.ensures ∙ ap each_formed c.as_slice-in-Case-3.ensures in
    let second : c.all_formed-in-Case-2.result ≡ each_formed thens = c.all_formed-in-Case-2.ensures ∙ ap each_formed c.as_slice-in-Case-4.ensures in
    let last : c.both-in-Case.result ≡ (each_formed thens && other) = c.both-in-Case.ensures ∙ both_same c.all_formed-in-Case-2.result c.formed_if_any.result (each_formed thens) other second c.formed_if_any.ensures in
    let rest : c.both-in-Case-2.result ≡ (each_formed whens && (each_formed thens && other)) = c.both-in-Case-2.ensures ∙ both_same c.all_formed-in-Case.result c.both-in-Case.result (each_formed whens) (each_formed thens && other) first last in
    c.both-in-Case-3.ensures
    ∙ (both_same c.same_count.result c.both-in-Case-2.result (same_counts whens thens) (each_formed whens && (each_formed thens && other)) counts rest
    ∙ sym (ap is_well_formed c.in-Case.is ∙ formed-Case whens thens c.in-Case.other))
