-- Aggregates inside frames.
use Rattle.std.proofs.Common.{◌≡◌, ℕ, suc, pos, ◌+◌, ◌-◌, List, [], ◌∷◌, ◌++◌, length, map, take, Some, None, refl, ap, ap₂, ◌∙◌, arith, length-append, take_at}
use Rattle.std.specs.List.{AllByRecursion}
use Rattle.n1ql_value.specs.declared.value.Value.{Value}
use Rattle.n1ql_value.specs.declared.value.Value.TheVariants.{Int, Missing}
use Rattle.n1ql_ast.specs.declared.agg.Agg.{Agg}
use Rattle.n1ql_ast.specs.declared.agg.Agg.TheVariants.{CountAll}
use Rattle.n1ql_ast.specs.declared.expr.Expr.{Expr}
use Rattle.n1ql_ast.specs.declared.expr.Expr.TheVariants as expr
use Rattle.n1ql_ast.specs.Evaluation.{Environment}
use Rattle.n1ql_expr.specs.Scopes.{with_locals}
use Rattle.n1ql_meaning.specs.Aggregates.{aggregate_of}
use Rattle.n1ql_meaning.specs.Groups.{on_row, value_over}
use Rattle.n1ql_meaning.proofs.Levels.{value_over-Agg}

-- the frames are the names in front of those that each row has
in_front : (frames base row : List (List ℕ × Value)) → length row ≡ length base → take (length (frames ++ base) - length row) (frames ++ base) ≡ frames
in_front frames base row e =
    let long : length (frames ++ base) ≡ length frames + length base = length-append frames base in
    take_at frames base (length (frames ++ base) - length row) (omega (arith, long, e))

on_row-with_locals : (frames : List (List ℕ × Value)) (base row : Environment) → length row.bound ≡ length base.bound → on_row (with_locals frames base) row ≡ with_locals frames row
on_row-with_locals frames base row e =
    ap (λ fs. let env : Environment = record { id = row.id; doc = row.doc; keys = row.keys; bound = fs ++ row.bound } in env)
    (in_front frames base.bound row.bound e)

values_inside : (f : Environment → Value) (frames : List (List ℕ × Value)) (base : Environment) (rows : List Environment)
    → AllByRecursion (λ (row : Environment). length row.bound ≡ length base.bound) rows
    → map (λ row. f (on_row (with_locals frames base) row)) rows ≡ map (λ row. f (with_locals frames row)) rows
values_inside f frames base [] h = refl
values_inside f frames base (row ∷ rows) h = ap₂ ◌∷◌ (ap f (on_row-with_locals frames base row h.0)) (values_inside f frames base rows h.1)

pub aggregate_inside : (agg : Agg) (x : Expr) (frames : List (List ℕ × Value)) (base : Environment) (rows : List Environment)
    → AllByRecursion (λ (row : Environment). length row.bound ≡ length base.bound) rows
    → value_over (Some rows) (expr.Agg agg (Some x)) (with_locals frames base)
    ≡ aggregate_of agg (map (λ row. value_over (Some rows) x (with_locals frames row)) rows)
aggregate_inside agg x frames base rows h =
    value_over-Agg (Some rows) agg (Some x) (with_locals frames base) ∙ ap (aggregate_of agg) (values_inside (value_over (Some rows) x) frames base rows h)

missing_long : (env : Environment) (rows : List Environment) → length (map (λ (row : Environment). Missing) rows) ≡ length rows
missing_long env [] = refl
missing_long env (row ∷ rows) = ap suc (missing_long env rows)

pub counted : (env : Environment) (rows : List Environment) → value_over (Some rows) (expr.Agg CountAll None) env ≡ Int (pos (length rows))
counted env rows = value_over-Agg (Some rows) CountAll None env ∙ ap (λ n. Int (pos n)) (missing_long env rows)
