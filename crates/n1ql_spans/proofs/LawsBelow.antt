-- What the crates below say of the order of values and of expressions, as their laws give it.
use Rattle.std.proofs.Common.{◌≡◌, ℕ, List, IsTrue}
use Rattle.std.specs.Bool.{Decides}
use Rattle.std.specs.Cmp.{IsTotalOrder}
use Rattle.std.specs.declared.cmp.Ordering.TheVariants.{Equal}
use Rattle.n1ql_value.specs.declared.datum.Datum.{Datum, out-Datum}
use Rattle.n1ql_value.specs.declared.row.Row.{Row}
use Rattle.n1ql_value.specs.Collation.{layer_cmp, row_cmp, value_cmp}
use Rattle.n1ql_value.specs.Kinds.{is_true}
use Rattle.n1ql_ast.specs.declared.expr.Expr.{Expr}
use Rattle.n1ql_ast.specs.Bindings.{Alike, IsClosedIn, is_constant}
use Rattle.n1ql_ast.specs.Conjunction.{all_true, conjuncts_of}
use Rattle.n1ql_ast.specs.Equality.{same_tree}
use Rattle.n1ql_ast.specs.Evaluation.{Environment, value_of}

pub record OrderLaws : Type 0 where
  pub total : IsTotalOrder value_cmp
  pub exact : (a b : Datum) → value_cmp a b ≡ Equal → a ≡ b
  pub by_layer : (a b : Datum) → value_cmp a b ≡ layer_cmp value_cmp (out-Datum a) (out-Datum b)
  pub exact_rows : (a b : Row) → row_cmp a b ≡ Equal → a ≡ b

pub record TreeLaws : Type 0 where
  pub same : (a b : Expr) → Decides (same_tree a b) (a ≡ b)
  pub constant : (c : Expr) → IsTrue (is_constant c) → (a b : Environment) → value_of c a ≡ value_of c b
  pub closed : (e : Expr) (names : List (List ℕ)) → IsClosedIn names e → (a b : Environment) → Alike names a b → value_of e a ≡ value_of e b
  pub conjuncts : (e : Expr) (env : Environment) → is_true (value_of e env) ≡ all_true (conjuncts_of e) env
