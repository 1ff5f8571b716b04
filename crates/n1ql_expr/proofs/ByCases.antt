-- The value of an expression by cases, as its laws want it.
use Rattle.std.proofs.Common.{◌≡◌, sym, ap, ap₂, ◌∙◌}
use Rattle.n1ql_value.specs.declared.op.Op.{Op}
use Rattle.n1ql_value.specs.declared.op.Op.TheVariants.{And, Ge, Le}
use Rattle.n1ql_value.specs.declared.value.Value.{Value}
use Rattle.n1ql_value.specs.Comparison.{between_of}
use Rattle.n1ql_value.specs.Logic.{and_of}
use Rattle.n1ql_value.specs.Operators.{operation_of}
use Rattle.n1ql_ast.specs.declared.expr.Expr.{Expr, fold-roll-Expr}
use Rattle.n1ql_ast.specs.declared.expr.Expr.TheOpen.{Expr-F}
use Rattle.n1ql_ast.specs.declared.expr.Expr.TheVariants as expr
use Rattle.n1ql_ast.specs.Evaluation.{Environment, level_in, value_of}

pub value_of-Two : (op : Op) (x y : Expr) (env : Environment) → value_of (expr.Two op x y) env ≡ operation_of op (value_of x env) (value_of y env)
value_of-Two op x y env =
    ap (λ e. value_of e env) (sym (expr.rolls-Two op x y)) ∙ ap (λ (f : Environment → Value). f env) (fold-roll-Expr (Environment → Value) level_in (Expr-F.Two op x y))

value_of-Between : (x low high : Expr) (env : Environment) → value_of (expr.Between x low high) env ≡ between_of (value_of x env) (value_of low env) (value_of high env)
value_of-Between x low high env =
    ap (λ e. value_of e env) (sym (expr.rolls-Between x low high)) ∙ ap (λ (f : Environment → Value). f env) (fold-roll-Expr (Environment → Value) level_in (Expr-F.Between x low high))

pub between_compares : (x low high : Expr) (env : Environment) → value_of (expr.Between x low high) env ≡ value_of (expr.Two And (expr.Two Ge x low) (expr.Two Le x high)) env
between_compares x low high env =
    value_of-Between x low high env
    ∙ sym (value_of-Two And (expr.Two Ge x low) (expr.Two Le x high) env ∙ ap₂ and_of (value_of-Two Ge x low env) (value_of-Two Le x high env))
