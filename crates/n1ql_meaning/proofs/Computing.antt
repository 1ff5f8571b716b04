-- How expressions and data that are told by their top levels are computed.
use Rattle.std.proofs.Common.{◌≡◌, Bool, ◌&&◌, ap}
use Rattle.std.specs.declared.cmp.Ordering.{Ordering}
use Rattle.n1ql_value.specs.declared.datum.Datum.{Datum, fold-roll-Datum, map-Datum, out-roll-Datum, roll-Datum}
use Rattle.n1ql_value.specs.declared.datum.Datum.TheOpen.{Datum-F}
use Rattle.n1ql_value.specs.declared.datum.Datum.TheVariants as datum
use Rattle.n1ql_value.specs.declared.value.Value.{Value}
use Rattle.n1ql_value.specs.Collation.{compare_with, value_cmp}
use Rattle.n1ql_ast.specs.declared.expr.Expr.{Expr, fold-roll-Expr, map-Expr, roll-Expr}
use Rattle.n1ql_ast.specs.declared.expr.Expr.TheOpen.{Expr-F}
use Rattle.n1ql_ast.specs.declared.expr.Expr.TheVariants as expr
use Rattle.n1ql_ast.specs.Evaluation.{Environment, level_in, value_of}
use Rattle.n1ql_ast.specs.Forms.{has_no_aggregate, is_no_aggregate, of_each_part}
use Rattle.n1ql_meaning.proofs.Levels.{value_over-roll}

pub value_of-roll : (l : Expr-F Expr) (env : Environment) → value_of (roll-Expr l) env ≡ level_in (map-Expr Expr (Environment → Value) value_of l) env
value_of-roll l env = ap (λ (f : Environment → Value). f env) (fold-roll-Expr (Environment → Value) level_in l)

pub has_no_aggregate-roll : (l : Expr-F Expr) → has_no_aggregate (roll-Expr l) ≡ (let m = map-Expr Expr Bool has_no_aggregate l in is_no_aggregate m && of_each_part m)
has_no_aggregate-roll l = fold-roll-Expr Bool (λ l. is_no_aggregate l && of_each_part l) l

pub value_cmp-roll : (x : Datum-F Datum) (d : Datum) → value_cmp (roll-Datum x) d ≡ compare_with (map-Datum Datum (Datum → Ordering) value_cmp x) d
unfolding value_cmp
value_cmp-roll x d = ap (λ (f : Datum → Ordering). f d) (fold-roll-Datum (Datum → Ordering) compare_with x)

pub ruleset levels = (
  value_of-roll,
  value_over-roll,
  has_no_aggregate-roll,
  value_cmp-roll,
  out-roll-Datum,
  ← expr.rolls-Var,
  ← expr.rolls-Doc,
  ← datum.rolls-Missing,
  ← datum.rolls-Null,
  ← datum.rolls-Bool,
  ← datum.rolls-Int,
  ← datum.rolls-Text,
  ← datum.rolls-Array,
  ← datum.rolls-Object,
)
