-- Whether the index of a statement waits for a BUILD INDEX.
use Rattle.std.specs.Prelude.{Bool, true, false, ◌-◌, length, slice_get}
use Rattle.std.specs.Option.{option_map_or}
use Rattle.n1ql_value.specs.declared.value.Value.TheVariants as value
use Rattle.n1ql_ast.specs.declared.create.Create.{Create}
use Rattle.n1ql_ast.specs.declared.expr.Expr.{Expr, out-Expr}
use Rattle.n1ql_ast.specs.declared.expr.Expr.TheOpen.{Expr-F}

-- TRUE, written out
abbrev pub is_true_literal : Expr-F Expr → Bool
is_true_literal (Expr-F.Const (value.Bool b)) = b
is_true_literal _ = false

-- an object whose last pair says TRUE
abbrev pub ends_in_true : Expr-F Expr → Bool
ends_in_true (Expr-F.Build names values) =
    option_map_or (λ e. is_true_literal (out-Expr e)) (slice_get values (length values - 1)) false
ends_in_true _ = false

-- Its options say so: each of them is `defer_build` where there is no reason against the statement, and the last one counts.
abbrev pub is_build_deferred : Create → Bool
is_build_deferred c = option_map_or (λ e. ends_in_true (out-Expr e)) c.options false
