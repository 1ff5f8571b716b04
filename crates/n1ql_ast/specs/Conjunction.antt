-- The conjuncts of an expression: the operands of the ANDs at its top.
use Rattle.std.specs.Prelude.{Bool, true, false, List, [], ◌∷◌, ◌++◌, Option, Some, None}
use Rattle.std.specs.List.{list_all}
use Rattle.n1ql_value.specs.declared.op.Op.TheVariants.{And}
use Rattle.n1ql_value.specs.Kinds.{is_true}
use Rattle.n1ql_ast.specs.declared.expr.Expr.{Expr, fold-Expr, out-Expr}
use Rattle.n1ql_ast.specs.declared.expr.Expr.TheOpen.{Expr-F}
use Rattle.n1ql_ast.specs.Evaluation.{Environment, value_of}

-- One level of the expression `whole`, given what its operands come to: those of AND one after the other, and any other
-- expression stands for itself.
abbrev pub operands_in : Expr-F (Expr → List Expr) → Expr-F Expr → Expr → List Expr
operands_in (Expr-F.Two And left right) (Expr-F.Two And x y) whole = left x ++ right y
operands_in _ _ whole = whole ∷ []

-- Left to right: those of the left operand of an AND and then those of the right one; any other expression is its own one conjunct.
abbrev pub conjuncts_of : Expr → List Expr
conjuncts_of e = fold-Expr (Expr → List Expr) (λ level whole. operands_in level (out-Expr whole) whole) e e

-- the conjuncts of WHERE, none where there is no WHERE
abbrev pub conjuncts_in : Option Expr → List Expr
conjuncts_in None = []
conjuncts_in (Some e) = conjuncts_of e

abbrev pub is_and_level : {A : Type 0} → Expr-F A → Bool
is_and_level (Expr-F.Two And x y) = true
is_and_level _ = false

-- whether an expression is an AND
abbrev pub is_and : Expr → Bool
is_and e = is_and_level (out-Expr e)

-- whether each of the expressions is TRUE in an environment
abbrev pub all_true : List Expr → Environment → Bool
all_true es env = list_all (λ e. is_true (value_of e env)) es
