-- The conjuncts of an expression are well formed where it is.
use Rattle.std.proofs.Common.{◌≡◌, zero, suc, Bool, ◌&&◌, List, [], ◌∷◌, IsTrue, sym, ap, subst, ◌∙◌, arith}
use Rattle.std.specs.List.{All}
use Rattle.std.proofs.lemmas.List.Elements.{All-append}
use Rattle.n1ql_value.specs.declared.op.Op.TheVariants.{And}
use Rattle.n1ql_ast.specs.declared.expr.Expr.{Expr, fold-Expr, fold-roll-Expr, ind-Expr, map-Expr, out-Expr, out-roll-Expr, roll-Expr}
use Rattle.n1ql_ast.specs.declared.expr.Expr.TheOpen.{Expr-F}
use Rattle.n1ql_ast.specs.Conjunction.{conjuncts_of, operands_in}
use Rattle.n1ql_ast.specs.Forms.{IsWellFormed, has_its_counts, is_well_formed, of_each_part}
use Rattle.n1ql_spans.proofs.Tests.{both}

all_one : {X : Type 0} (P : X → Type 0) (x : X) → P x → All P (x ∷ [])
all_one P x h zero d l = h
all_one P x h (suc k) d l = absurd (omega arith)

abbrev step : Expr-F (Expr → List Expr) → Expr → List Expr
step level whole = operands_in level (out-Expr whole) whole

abbrev Keeps : Expr → Type 0
Keeps e = IsWellFormed e → All IsWellFormed (conjuncts_of e)

conjuncts_of-roll : (x : Expr-F Expr) → conjuncts_of (roll-Expr x) ≡ operands_in (map-Expr Expr (Expr → List Expr) (fold-Expr (Expr → List Expr) step) x) x (roll-Expr x)
conjuncts_of-roll x =
    ap (λ f. f (roll-Expr x)) (fold-roll-Expr (Expr → List Expr) step x)
    ∙ ap (λ top. operands_in (map-Expr Expr (Expr → List Expr) (fold-Expr (Expr → List Expr) step) x) top (roll-Expr x)) (out-roll-Expr x)

-- an expression that stands for itself
alone : (e : Expr) → conjuncts_of e ≡ e ∷ [] → Keeps e
alone e is h = subst (All IsWellFormed) (sym is) (all_one IsWellFormed e h)

-- two expressions joined by AND
joined : (x y : Expr) → Keeps x → Keeps y → Keeps (roll-Expr (Expr-F.Two And x y))
joined x y keeps_x keeps_y h =
    let formed = both (is_well_formed x) (is_well_formed y) (subst IsTrue (fold-roll-Expr Bool (λ l. has_its_counts l && of_each_part l) (Expr-F.Two And x y)) h) in
    subst (All IsWellFormed) (sym (conjuncts_of-roll (Expr-F.Two And x y)))
    (All-append IsWellFormed (conjuncts_of x) (conjuncts_of y) (keeps_x formed.0) (keeps_y formed.1))

by_layer : (y : Expr-F ((e : Expr) × Keeps e)) → Keeps (roll-Expr (map-Expr ((e : Expr) × Keeps e) Expr (λ e. e.0) y))
by_layer (Expr-F.Two And x y) = joined x.0 y.0 x.1 y.1
by_layer other = let top : Expr-F Expr = map-Expr ((e : Expr) × Keeps e) Expr (λ e. e.0) other in alone (roll-Expr top) (conjuncts_of-roll top)

pub conjuncts_well_formed : (e : Expr) → IsWellFormed e → All IsWellFormed (conjuncts_of e)
conjuncts_well_formed = ind-Expr Keeps (λ x y is. subst (λ z. Keeps (roll-Expr z)) is (by_layer y))
