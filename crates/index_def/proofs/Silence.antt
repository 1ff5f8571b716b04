-- What an expression that holds lists is silent on.
use Rattle.std.specs.Prelude.{◌≡◌, ℕ, ◌&&◌, not, Bool, true, false, List, Option, Some, None, map, option_map, refl}
use Rattle.std.proofs.Common.{sym, ap, ◌∙◌}
use Rattle.n1ql_value.specs.declared.fun.Fun.{Fun}
use Rattle.n1ql_ast.specs.declared.expr.Expr.{Expr, fold-roll-Expr}
use Rattle.n1ql_ast.specs.declared.expr.Expr.TheVariants as expr
use Rattle.n1ql_ast.specs.declared.expr.Expr.TheOpen.{Expr-F}
use Rattle.n1ql_ast.specs.Forms.{all_hold, held_if_any, of_each_part}
use Rattle.index_def.specs.declared.subject.Subject.{Subject}
use Rattle.index_def.specs.Mentions.{is_silent_on, is_subject, subject_of}

abbrev step : Subject → Expr-F Bool → Bool
step s l = not (is_subject (subject_of l) s) && of_each_part l

pub silent-Call : (s : Subject) (fun : Fun) (xs : List Expr) → is_silent_on s (expr.Call fun xs) ≡ all_hold (map (is_silent_on s) xs)
silent-Call s fun xs = ap (is_silent_on s) (sym (expr.rolls-Call fun xs)) ∙ fold-roll-Expr Bool (step s) (Expr-F.Call fun xs)

pub silent-List : (s : Subject) (xs : List Expr) → is_silent_on s (expr.List xs) ≡ all_hold (map (is_silent_on s) xs)
silent-List s xs = ap (is_silent_on s) (sym (expr.rolls-List xs)) ∙ fold-roll-Expr Bool (step s) (Expr-F.List xs)

pub silent-Build : (s : Subject) (names : List (List ℕ)) (xs : List Expr) → is_silent_on s (expr.Build names xs) ≡ all_hold (map (is_silent_on s) xs)
silent-Build s names xs = ap (is_silent_on s) (sym (expr.rolls-Build names xs)) ∙ fold-roll-Expr Bool (step s) (Expr-F.Build names xs)

pub silent-Case : (s : Subject) (whens thens : List Expr) (other : Option Expr) →
    is_silent_on s (expr.Case whens thens other)
    ≡ (all_hold (map (is_silent_on s) whens) && (all_hold (map (is_silent_on s) thens) && held_if_any (option_map (is_silent_on s) other)))
silent-Case s whens thens None = ap (is_silent_on s) (sym (expr.rolls-Case whens thens None)) ∙ fold-roll-Expr Bool (step s) (Expr-F.Case whens thens None)
silent-Case s whens thens (Some other) = ap (is_silent_on s) (sym (expr.rolls-Case whens thens (Some other))) ∙ fold-roll-Expr Bool (step s) (Expr-F.Case whens thens (Some other))

-- CASE, part by part
pub case_both : (s : Subject) (whens thens : List Expr) (other : Option Expr) (e : Expr) → e ≡ expr.Case whens thens other →
    all_hold (map (is_silent_on s) whens) ≡ true → all_hold (map (is_silent_on s) thens) ≡ true → is_silent_on s e ≡ held_if_any (option_map (is_silent_on s) other)
case_both s whens thens other e is a b = ap (is_silent_on s) is ∙ (silent-Case s whens thens other ∙ rw (a, b) refl)

pub case_second : (s : Subject) (whens thens : List Expr) (other : Option Expr) (e : Expr) → e ≡ expr.Case whens thens other →
    all_hold (map (is_silent_on s) whens) ≡ true → all_hold (map (is_silent_on s) thens) ≡ false → is_silent_on s e ≡ false
case_second s whens thens other e is a b = ap (is_silent_on s) is ∙ (silent-Case s whens thens other ∙ rw (a, b) refl)
