-- Expressions that no environment changes, and those that read none of the names around them.
use Rattle.std.proofs.Common.{◌≡◌, ℕ, Bool, true, false, ◌||◌, List, Option, Some, IsTrue, cond, refl, ap, ◌∙◌}
use Rattle.std.specs.Prelude.{bytes_eq}
use Rattle.std.specs.List.{list_any}
use Rattle.std.specs.Ordering.{nat_cmp, is_eq}
use Rattle.std.specs.Cmp.Lexicographic.{slice_cmp}
use Rattle.std.proofs.lemmas.Map.Text.{is_eq-slice_cmp}
use Rattle.n1ql_value.specs.declared.value.Value.{Value}
use Rattle.n1ql_value.specs.declared.value.Value.TheVariants.{Missing}
use Rattle.n1ql_value.specs.Kinds.{or_missing}
use Rattle.n1ql_value.specs.Names.{under_name}
use Rattle.n1ql_ast.specs.declared.expr.Expr.{Expr, map-Expr, fold-roll-Expr}
use Rattle.n1ql_ast.specs.declared.expr.Expr.TheOpen.{Expr-F}
use Rattle.n1ql_ast.specs.Bindings.{Alike, holds_within, names_nothing, is_constant, is_bound, is_closed_in, with_name}
use Rattle.n1ql_ast.specs.Evaluation.{Environment, inside, level_in, value_of}
use Rattle.n1ql_ast.proofs.Congruence.{Aggregates, GoesByLevels, LeafSame, agrees, level_with}

-- outside of a group an aggregate is MISSING
abbrev no_rows : Aggregates
no_rows = λ agg x env. Missing

level-no_rows : (l : Expr-F (Environment → Value)) (env : Environment) → level_in l env ≡ level_with no_rows l env
level-no_rows (Expr-F.Agg agg x) env = refl
level-no_rows l env = refl

pub value_of-goes : GoesByLevels no_rows value_of
value_of-goes l env = ap (λ (f : Environment → Value). f env) (fold-roll-Expr (Environment → Value) level_in l) ∙ level-no_rows (map-Expr Expr (Environment → Value) value_of l) env

abbrev Any : Unit {0} → Environment → Environment → Type 0
Any s a b = Unit {0}

constant_leaf : (s : Unit {0}) (l : Expr-F Expr) → IsTrue (names_nothing (map-Expr Expr (Unit {0} → Bool) (holds_within (λ name s. s) (λ l s. names_nothing l)) l))
    → LeafSame Any no_rows no_rows value_of value_of s l
constant_leaf s Expr-F.Doc h = absurd cc
constant_leaf s (Expr-F.MetaOf own) h = absurd cc
constant_leaf s (Expr-F.Var name) h = absurd cc
constant_leaf s (Expr-F.Key at) h = absurd cc
constant_leaf s (Expr-F.Agg agg x) h = absurd cc
constant_leaf s _ h = tt

pub constant_same : (c : Expr) → IsTrue (is_constant c) → (a b : Environment) → value_of c a ≡ value_of c b
constant_same c h a b =
    agrees (λ name (s : Unit {0}). s) Any (λ s name v a b r. tt) no_rows no_rows value_of value_of (λ l s. names_nothing l) value_of-goes value_of-goes constant_leaf c tt h a b tt

bound_inside : (t u : Bool) → t ≡ u → (v : Value) (x y : Option Value) (rest : Bool) → (IsTrue rest → x ≡ y) → IsTrue (u || rest) → cond t (Some v) x ≡ cond t (Some v) y
bound_inside true u is v x y rest h k = refl
bound_inside false true is v x y rest h k = absurd cc
bound_inside false false is v x y rest h k = h k

alike_inside : (names : List (List ℕ)) (name : List ℕ) (v : Value) (a b : Environment) → Alike names a b → Alike (with_name name names) (inside name v a) (inside name v b)
alike_inside names name v a b r = record {
  id = r.id;
  doc = r.doc;
  keys = r.keys;
  bound = λ n h. bound_inside (is_eq (slice_cmp nat_cmp n name)) (bytes_eq n name) (is_eq-slice_cmp n name) v (under_name n a.bound) (under_name n b.bound) (list_any (bytes_eq n) names) (r.bound n) h;
}

closed_leaf : (names : List (List ℕ)) (l : Expr-F Expr) → IsTrue (is_bound (map-Expr Expr (List (List ℕ) → Bool) (holds_within with_name is_bound) l) names)
    → LeafSame Alike no_rows no_rows value_of value_of names l
closed_leaf names Expr-F.Doc h = λ a b r. r.doc
closed_leaf names (Expr-F.MetaOf own) h = λ a b r. ap (λ id. let env : Environment = record { id = id; doc = a.doc; keys = a.keys; bound = a.bound } in level_in (Expr-F.MetaOf own) env) r.id
closed_leaf names (Expr-F.Var name) h = λ a b r. ap or_missing (r.bound name h)
closed_leaf names (Expr-F.Key at) h = λ a b r. ap (λ ks. let env : Environment = record { id = a.id; doc = a.doc; keys = ks; bound = a.bound } in level_in (Expr-F.Key at) env) r.keys
closed_leaf names (Expr-F.Agg agg x) h = λ same a b r. refl
closed_leaf names _ h = tt

pub closed_same : (e : Expr) (names : List (List ℕ)) → IsTrue (is_closed_in e names) → (a b : Environment) → Alike names a b → value_of e a ≡ value_of e b
closed_same e names h a b r = agrees with_name Alike alike_inside no_rows no_rows value_of value_of is_bound value_of-goes value_of-goes closed_leaf e names h a b r
