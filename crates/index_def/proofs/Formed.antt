-- The conjuncts of an expression can be evaluated and are closed where it is.
use Rattle.std.proofs.Common.{◌≡◌, ℕ, zero, suc, Bool, true, false, ◌&&◌, List, [], ◌∷◌, Option, Some, None, IfSome, IsTrue, refl, sym, ap, subst, ◌∙◌, arith}
use Rattle.std.specs.List.{All}
use Rattle.std.proofs.lemmas.List.Elements.{All-append}
use Rattle.n1ql_value.specs.declared.op.Op.TheVariants.{And}
use Rattle.n1ql_ast.specs.declared.create.Create.{Create}
use Rattle.n1ql_ast.specs.declared.expr.Expr.{Expr, fold-Expr, fold-roll-Expr, ind-Expr, map-Expr, out-Expr, out-roll-Expr, roll-Expr}
use Rattle.n1ql_ast.specs.declared.expr.Expr.TheOpen.{Expr-F}
use Rattle.n1ql_ast.specs.Bindings.{in_scope, is_bound, is_closed, with_name}
use Rattle.n1ql_ast.specs.Conjunction.{conjuncts_in, conjuncts_of, operands_in}
use Rattle.n1ql_ast.specs.FormedStatements.{IsFormedCreate, IsFormedIn}
use Rattle.n1ql_ast.specs.Forms.{has_its_counts, has_no_aggregate, is_no_aggregate, is_well_formed, of_each_part}
use Rattle.index_def.specs.Definitions.{definition_of}
use Rattle.index_def.specs.Forms.{DefinesFormed, IsFormed}

both : (a b : Bool) → IsTrue (a && b) → IsTrue a × IsTrue b
both true b h = (refl, h)
both false b h = absurd cc

all_one : {X : Type 0} (P : X → Type 0) (x : X) → P x → All P (x ∷ [])
all_one P x h zero d l = h
all_one P x h (suc k) d l = absurd (omega arith)

abbrev step : Expr-F (Expr → List Expr) → Expr → List Expr
step level whole = operands_in level (out-Expr whole) whole

abbrev Keeps : Expr → Type 0
Keeps e = IsFormedIn [] e → All (IsFormedIn []) (conjuncts_of e)

-- an expression that stands for itself
alone : (e : Expr) → conjuncts_of e ≡ e ∷ [] → Keeps e
alone e is h = subst (All (IsFormedIn [])) (sym is) (all_one (IsFormedIn []) e h)

conjuncts_of-roll : (x : Expr-F Expr) → conjuncts_of (roll-Expr x) ≡ operands_in (map-Expr Expr (Expr → List Expr) (fold-Expr (Expr → List Expr) step) x) x (roll-Expr x)
conjuncts_of-roll x =
    ap (λ f. f (roll-Expr x)) (fold-roll-Expr (Expr → List Expr) step x)
    ∙ ap (λ top. operands_in (map-Expr Expr (Expr → List Expr) (fold-Expr (Expr → List Expr) step) x) top (roll-Expr x)) (out-roll-Expr x)

-- two expressions joined by AND
joined : (x y : Expr) → Keeps x → Keeps y → Keeps (roll-Expr (Expr-F.Two And x y))
joined x y keeps_x keeps_y h =
    let formed = both (is_well_formed x) (is_well_formed y) (subst IsTrue (fold-roll-Expr Bool (λ l. has_its_counts l && of_each_part l) (Expr-F.Two And x y)) h.0.0) in
    let plain = both (has_no_aggregate x) (has_no_aggregate y) (subst IsTrue (fold-roll-Expr Bool (λ l. is_no_aggregate l && of_each_part l) (Expr-F.Two And x y)) h.0.1) in
    let closed = both (is_closed x) (is_closed y)
    (subst IsTrue (ap (λ (f : List (List ℕ) → Bool). f []) (fold-roll-Expr (List (List ℕ) → Bool) (λ l s. is_bound l s && of_each_part (in_scope with_name l s)) (Expr-F.Two And x y))) h.1) in
    subst (All (IsFormedIn [])) (sym (conjuncts_of-roll (Expr-F.Two And x y)))
    (All-append (IsFormedIn []) (conjuncts_of x) (conjuncts_of y) (keeps_x ((formed.0, plain.0), closed.0)) (keeps_y ((formed.1, plain.1), closed.1)))

by_layer : (y : Expr-F ((e : Expr) × Keeps e)) → Keeps (roll-Expr (map-Expr ((e : Expr) × Keeps e) Expr (λ e. e.0) y))
by_layer (Expr-F.Two And x y) = joined x.0 y.0 x.1 y.1
by_layer other = let top : Expr-F Expr = map-Expr ((e : Expr) × Keeps e) Expr (λ e. e.0) other in alone (roll-Expr top) (conjuncts_of-roll top)

conjuncts_keep : (e : Expr) → Keeps e
conjuncts_keep = ind-Expr Keeps (λ x y is. subst (λ z. Keeps (roll-Expr z)) is (by_layer y))

conjuncts_in_keep : (filter : Option Expr) → IfSome filter (IsFormedIn []) → All (IsFormedIn []) (conjuncts_in filter)
conjuncts_in_keep None h = λ k d l. absurd (omega arith)
conjuncts_in_keep (Some e) h = conjuncts_keep e h

pub definition_is_formed : (c : Create) → DefinesFormed c → IsFormed (definition_of c)
definition_is_formed c h = record {
  keys = h.keys;
  some = h.some;
  filter = conjuncts_in_keep c.filter h.filter;
  primary = λ primary. let is = h.primary primary in (is.0, ap conjuncts_in is.1);
}

pub statement_defines_formed : (c : Create) → IsFormedCreate c → DefinesFormed c
statement_defines_formed c h = record { keys = h.keys; some = h.some; filter = h.filter; primary = h.primary }
