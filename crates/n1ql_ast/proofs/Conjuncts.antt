-- The conjuncts of an expression by cases, and that it is TRUE exactly where each of them is.
use Rattle.std.proofs.Common.{◌≡◌, Bool, true, false, ◌&&◌, List, [], ◌∷◌, ◌++◌, refl, sym, ap, ap₂, subst, ◌∙◌}
use Rattle.std.proofs.lemmas.Bool.{true≢false}
use Rattle.n1ql_value.specs.declared.op.Op.TheVariants.{And}
use Rattle.n1ql_value.specs.declared.value.Value.{Value}
use Rattle.n1ql_value.specs.declared.value.Value.TheVariants.{Missing, Null, Int, Text, Array, Object}
use Rattle.n1ql_value.specs.declared.value.Value.TheVariants as value
use Rattle.n1ql_value.specs.Kinds.{is_true}
use Rattle.n1ql_value.specs.Logic.{all_of, and_of, truth_of}
use Rattle.n1ql_ast.specs.declared.expr.Expr.{Expr, fold-Expr, fold-roll-Expr, ind-Expr, map-Expr, out-Expr, out-roll-Expr, roll-Expr, roll-out-Expr}
use Rattle.n1ql_ast.specs.declared.expr.Expr.TheOpen.{Expr-F}
use Rattle.n1ql_ast.specs.declared.expr.Expr.TheVariants as expr
use Rattle.n1ql_ast.specs.Conjunction.{all_true, conjuncts_of, is_and, is_and_level, operands_in}
use Rattle.n1ql_ast.specs.Evaluation.{Environment, level_in, value_of}

null_false : (b : Value) → is_true (all_of Null (truth_of b)) ≡ false
null_false Missing = refl
null_false Null = refl
null_false (value.Bool true) = refl
null_false (value.Bool false) = refl
null_false (Int z) = refl
null_false (Text t) = refl
null_false (Array ds) = refl
null_false (Object ps) = refl

and_is : (a b : Value) → is_true (and_of a b) ≡ (is_true a && is_true b)
and_is (value.Bool true) Missing = refl
and_is (value.Bool true) Null = refl
and_is (value.Bool true) (value.Bool true) = refl
and_is (value.Bool true) (value.Bool false) = refl
and_is (value.Bool true) (Int z) = refl
and_is (value.Bool true) (Text t) = refl
and_is (value.Bool true) (Array ds) = refl
and_is (value.Bool true) (Object ps) = refl
and_is (value.Bool false) b = refl
and_is Missing Missing = refl
and_is Missing Null = refl
and_is Missing (value.Bool true) = refl
and_is Missing (value.Bool false) = refl
and_is Missing (Int z) = refl
and_is Missing (Text t) = refl
and_is Missing (Array ds) = refl
and_is Missing (Object ps) = refl
and_is Null b = null_false b
and_is (Int z) b = null_false b
and_is (Text t) b = null_false b
and_is (Array ds) b = null_false b
and_is (Object ps) b = null_false b

all_append : (env : Environment) (es fs : List Expr) → all_true (es ++ fs) env ≡ (all_true es env && all_true fs env)
all_append env [] fs = refl
all_append env (e ∷ es) fs = elim (is_true (value_of e env)) as (λ b. (b && all_true (es ++ fs) env) ≡ ((b && all_true es env) && all_true fs env)) [ true ↦ all_append env es fs | false ↦ refl ]

abbrev Splits : Expr → Type 0
Splits e = (env : Environment) → is_true (value_of e env) ≡ all_true (conjuncts_of e) env

abbrev step : Expr-F (Expr → List Expr) → Expr → List Expr
step level whole = operands_in level (out-Expr whole) whole

conjuncts_of-roll : (x : Expr-F Expr) → conjuncts_of (roll-Expr x) ≡ operands_in (map-Expr Expr (Expr → List Expr) (fold-Expr (Expr → List Expr) step) x) x (roll-Expr x)
conjuncts_of-roll x =
    ap (λ f. f (roll-Expr x)) (fold-roll-Expr (Expr → List Expr) step x)
    ∙ ap (λ top. operands_in (map-Expr Expr (Expr → List Expr) (fold-Expr (Expr → List Expr) step) x) top (roll-Expr x)) (out-roll-Expr x)

always : (b : Bool) → b ≡ (b && true)
always true = refl
always false = refl

alone : (e : Expr) → conjuncts_of e ≡ e ∷ [] → Splits e
alone e is env = always (is_true (value_of e env)) ∙ ap (λ es. all_true es env) (sym is)

joined : (x y : Expr) → Splits x → Splits y → Splits (roll-Expr (Expr-F.Two And x y))
joined x y by_x by_y env =
    ap (λ (f : Environment → Value). is_true (f env)) (fold-roll-Expr (Environment → Value) level_in (Expr-F.Two And x y))
    ∙ (and_is (value_of x env) (value_of y env) ∙ (ap₂ ◌&&◌ (by_x env) (by_y env)
    ∙ (sym (all_append env (conjuncts_of x) (conjuncts_of y)) ∙ ap (λ es. all_true es env) (sym (conjuncts_of-roll (Expr-F.Two And x y))))))

by_layer : (y : Expr-F ((e : Expr) × Splits e)) → Splits (roll-Expr (map-Expr ((e : Expr) × Splits e) Expr (λ e. e.0) y))
by_layer (Expr-F.Two And x y) = joined x.0 y.0 x.1 y.1
by_layer other = let top : Expr-F Expr = map-Expr ((e : Expr) × Splits e) Expr (λ e. e.0) other in alone (roll-Expr top) (conjuncts_of-roll top)

pub splits : (e : Expr) → Splits e
splits = ind-Expr Splits (λ x y is. subst (λ z. Splits (roll-Expr z)) is (by_layer y))

pub conjuncts_of-And : (x y : Expr) → conjuncts_of (expr.Two And x y) ≡ conjuncts_of x ++ conjuncts_of y
conjuncts_of-And x y = ap conjuncts_of (sym (expr.rolls-Two And x y)) ∙ conjuncts_of-roll (Expr-F.Two And x y)

lone : (l : Expr-F Expr) → is_and_level l ≡ false → conjuncts_of (roll-Expr l) ≡ roll-Expr l ∷ []
lone (Expr-F.Two And x y) not_and = absurd (true≢false not_and)
lone other not_and = conjuncts_of-roll other

pub conjuncts_of-other : (e : Expr) → is_and e ≡ false → conjuncts_of e ≡ e ∷ []
conjuncts_of-other e not_and = subst (λ x. conjuncts_of x ≡ x ∷ []) (roll-out-Expr e) (lone (out-Expr e) not_and)
