-- Constants that have lists of parts, or parts in another scope.
use Rattle.std.proofs.Common.{◌≡◌, ℕ, Bool, true, ◌&&◌, List, map, Option, Some, None, refl, sym, ap, ap₂, ◌∙◌}
use Rattle.std.specs.Option.{option_map}
use Rattle.n1ql_value.specs.declared.fun.Fun.{Fun}
use Rattle.n1ql_ast.specs.declared.expr.Expr.{Expr, fold-Expr, fold-roll-Expr}
use Rattle.n1ql_ast.specs.declared.expr.Expr.TheOpen.{Expr-F}
use Rattle.n1ql_ast.specs.declared.expr.Expr.TheVariants as expr
use Rattle.n1ql_ast.specs.Bindings.{in_scope, is_constant, names_nothing}
use Rattle.n1ql_ast.specs.Forms.{all_hold, held_if_any, of_each_part}
use Rattle.n1ql_spans.proofs.Maps.{maps}

abbrev step : Expr-F (Unit {0} → Bool) → Unit {0} → Bool
step l s = names_nothing l && of_each_part (in_scope {S = Unit {0}} {A = Bool} (λ name s. s) l s)

abbrev here : (Unit {0} → Bool) → Bool
here f = f tt

parts : (xs : List Expr) → all_hold (map here (map (fold-Expr (Unit {0} → Bool) step) xs)) ≡ all_hold (map is_constant xs)
parts xs = ap all_hold (maps (fold-Expr (Unit {0} → Bool) step) here xs)

pub constant_call : (fun : Fun) (xs : List Expr) → is_constant (expr.Call fun xs) ≡ all_hold (map is_constant xs)
constant_call fun xs = ap is_constant (sym (expr.rolls-Call fun xs)) ∙ (ap here (fold-roll-Expr (Unit {0} → Bool) step (Expr-F.Call fun xs)) ∙ parts xs)

pub constant_list : (xs : List Expr) → is_constant (expr.List xs) ≡ all_hold (map is_constant xs)
constant_list xs = ap is_constant (sym (expr.rolls-List xs)) ∙ (ap here (fold-roll-Expr (Unit {0} → Bool) step (Expr-F.List xs)) ∙ parts xs)

pub constant_build : (names : List (List ℕ)) (xs : List Expr) → is_constant (expr.Build names xs) ≡ all_hold (map is_constant xs)
constant_build names xs = ap is_constant (sym (expr.rolls-Build names xs)) ∙ (ap here (fold-roll-Expr (Unit {0} → Bool) step (Expr-F.Build names xs)) ∙ parts xs)

pub constant_case : (whens thens : List Expr) (other : Option Expr) → is_constant (expr.Case whens thens other) ≡ (all_hold (map is_constant whens) && (all_hold (map is_constant thens) && held_if_any (option_map is_constant other)))
constant_case whens thens None = ap is_constant (sym (expr.rolls-Case whens thens None)) ∙ (ap here (fold-roll-Expr (Unit {0} → Bool) step (Expr-F.Case whens thens None)) ∙ ap₂ (λ a b. a && (b && true)) (parts whens) (parts thens))
constant_case whens thens (Some other) = ap is_constant (sym (expr.rolls-Case whens thens (Some other))) ∙ (ap here (fold-roll-Expr (Unit {0} → Bool) step (Expr-F.Case whens thens (Some other))) ∙ ap₂ (λ a b. a && (b && is_constant other)) (parts whens) (parts thens))

pub constant_each : (name : List ℕ) (item over : Expr) (when : Option Expr) → is_constant (expr.Each name item over when) ≡ (is_constant item && (is_constant over && held_if_any (option_map is_constant when)))
constant_each name item over None = ap is_constant (sym (expr.rolls-Each name item over None)) ∙ ap here (fold-roll-Expr (Unit {0} → Bool) step (Expr-F.Each name item over None))
constant_each name item over (Some when) = ap is_constant (sym (expr.rolls-Each name item over (Some when))) ∙ ap here (fold-roll-Expr (Unit {0} → Bool) step (Expr-F.Each name item over (Some when)))

pub constant_first : (name : List ℕ) (item over : Expr) (when : Option Expr) → is_constant (expr.First name item over when) ≡ (is_constant item && (is_constant over && held_if_any (option_map is_constant when)))
constant_first name item over None = ap is_constant (sym (expr.rolls-First name item over None)) ∙ ap here (fold-roll-Expr (Unit {0} → Bool) step (Expr-F.First name item over None))
constant_first name item over (Some when) = ap is_constant (sym (expr.rolls-First name item over (Some when))) ∙ ap here (fold-roll-Expr (Unit {0} → Bool) step (Expr-F.First name item over (Some when)))

-- CASE, where all conditions and results are constants
pub case_both : (whens thens : List Expr) (other : Option Expr) (e : Expr) → e ≡ expr.Case whens thens other → all_hold (map is_constant whens) ≡ true → all_hold (map is_constant thens) ≡ true → is_constant e ≡ held_if_any (option_map is_constant other)
case_both whens thens other e is a b = ap is_constant is ∙ (constant_case whens thens other ∙ rw (a, b) refl)

pub ruleset constant_by_cases = (
  constant_call,
  constant_list,
  constant_build,
  constant_case,
  constant_each,
  constant_first,
)
