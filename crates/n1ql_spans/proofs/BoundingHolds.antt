-- Where a conjunct is TRUE, the key that it bounds lies in one of its ranges, and isn't MISSING.
use Rattle.std.proofs.Common.{◌≡◌, true, false, ◌&&◌, cond, Some, None, IsTrue, refl, ap, subst}
use Rattle.n1ql_value.specs.declared.op.Op.{Op}
use Rattle.n1ql_value.specs.declared.value.Value.{Value}
use Rattle.n1ql_value.specs.Comparison.{between_of, in_of}
use Rattle.n1ql_value.specs.Kinds.{is_true}
use Rattle.n1ql_value.specs.Logic.{not_of}
use Rattle.n1ql_value.specs.Operators.{operation_of}
use Rattle.n1ql_ast.specs.declared.expr.Expr.{Expr, map-Expr, out-Expr}
use Rattle.n1ql_ast.specs.declared.expr.Expr.TheFolds.{fold_out-Expr}
use Rattle.n1ql_ast.specs.declared.expr.Expr.TheOpen.{Expr-F}
use Rattle.n1ql_ast.specs.declared.test.Test.{Test}
use Rattle.n1ql_ast.specs.Bindings.{is_constant}
use Rattle.n1ql_ast.specs.Equality.{same_tree}
use Rattle.n1ql_ast.specs.Evaluation.{Environment, level_in, test_of, value_of}
use Rattle.n1ql_meaning.specs.Results.{nowhere}
use Rattle.n1ql_spans.specs.Bounding.{among, between, bounding, bounding_level, compared, constant_value, denied, mirror, tested, tested_not}
use Rattle.n1ql_spans.proofs.ComparisonsHold.{HeldIfAny, among_holds, between_holds, compared_holds, denial_holds, mirrored_holds, test_holds}
use Rattle.n1ql_spans.proofs.LawsBelow.{OrderLaws, TreeLaws}
use Rattle.n1ql_spans.proofs.Tests.{both}

module _ (order : OrderLaws) (trees : TreeLaws) (e : Expr) (env : Environment) where
  exact : (a b : Expr) → IsTrue (same_tree a b) → a ≡ b
  exact a b h = (trees.same a b).0 h

  abbrev level_true : Expr-F Expr → Type 0
  level_true l = IsTrue (is_true (level_in (map-Expr Expr (Environment → Value) value_of l) env))

  abbrev v : Value
  v = value_of e env

  constant_here : (c : Expr) → IsTrue (is_constant c) → value_of c env ≡ constant_value c
  constant_here c h = trees.constant c h env nowhere

  two_holds : (o : Op) (x y : Expr) → IsTrue (is_true (operation_of o (value_of x env) (value_of y env))) → HeldIfAny (bounding_level e (Expr-F.Two o x y)) v
  two_holds o x y h =
      elim (same_tree x e && is_constant y) as (λ b. (same_tree x e && is_constant y) ≡ b → HeldIfAny (cond b (compared o (constant_value y)) (cond (same_tree y e && is_constant x) (compared (mirror o) (constant_value x)) None)) v) [
        | true ↦ λ is. let t = both (same_tree x e) (is_constant y) is in
            compared_holds order o v (constant_value y) (subst (λ w. IsTrue (is_true (operation_of o w (constant_value y)))) (ap (λ z. value_of z env) (exact x e t.0)) (subst (λ w. IsTrue (is_true (operation_of o (value_of x env) w))) (constant_here y t.1) h))
        | false ↦ λ is. elim (same_tree y e && is_constant x) as (λ b. (same_tree y e && is_constant x) ≡ b → HeldIfAny (cond b (compared (mirror o) (constant_value x)) None) v) [
          | true ↦ λ was. let t = both (same_tree y e) (is_constant x) was in
              mirrored_holds order o v (constant_value x) (subst (λ w. IsTrue (is_true (operation_of o (constant_value x) w))) (ap (λ z. value_of z env) (exact y e t.0)) (subst (λ w. IsTrue (is_true (operation_of o w (value_of y env)))) (constant_here x t.1) h))
          | false ↦ λ was. tt
        ] refl
      ] refl

  between_level : (x low high : Expr) → IsTrue (is_true (between_of (value_of x env) (value_of low env) (value_of high env))) → HeldIfAny (bounding_level e (Expr-F.Between x low high)) v
  between_level x low high h =
      elim (same_tree x e && (is_constant low && is_constant high)) as (λ b. (same_tree x e && (is_constant low && is_constant high)) ≡ b → HeldIfAny (cond b (Some (between (constant_value low) (constant_value high))) None) v) [
        | true ↦ λ is.
            let t = both (same_tree x e) (is_constant low && is_constant high) is in
            let u = both (is_constant low) (is_constant high) t.1 in
            between_holds order (constant_value low) (constant_value high) v
            (subst (λ w. IsTrue (is_true (between_of w (constant_value low) (constant_value high)))) (ap (λ z. value_of z env) (exact x e t.0))
            (subst (λ w. IsTrue (is_true (between_of (value_of x env) w (constant_value high)))) (constant_here low u.0)
            (subst (λ w. IsTrue (is_true (between_of (value_of x env) (value_of low env) w))) (constant_here high u.1) h)))
        | false ↦ λ is. tt
      ] refl

  test_level : (t : Test) (x : Expr) → IsTrue (is_true (test_of t (value_of x env))) → HeldIfAny (bounding_level e (Expr-F.Is t x)) v
  test_level t x h =
      elim (same_tree x e) as (λ b. same_tree x e ≡ b → HeldIfAny (cond b (tested t) None) v) [
        | true ↦ λ is. test_holds order t v (subst (λ z. IsTrue (is_true (test_of t (value_of z env)))) (exact x e is) h)
        | false ↦ λ is. tt
      ] refl

  denial_level : (t : Test) (x : Expr) → IsTrue (is_true (not_of (test_of t (value_of x env)))) → HeldIfAny (denied e (Expr-F.Is t x)) v
  denial_level t x h =
      elim (same_tree x e) as (λ b. same_tree x e ≡ b → HeldIfAny (cond b (tested_not t) None) v) [
        | true ↦ λ is. denial_holds order t v (subst (λ z. IsTrue (is_true (not_of (test_of t (value_of z env))))) (exact x e is) h)
        | false ↦ λ is. tt
      ] refl

  denied_holds : (m : Expr-F Expr) → IsTrue (is_true (not_of (level_in (map-Expr Expr (Environment → Value) value_of m) env))) → HeldIfAny (denied e m) v
  denied_holds (Expr-F.Is t x) h = denial_level t x h
  denied_holds m h = tt

  among_level : (x list : Expr) → IsTrue (is_true (in_of (value_of x env) (value_of list env))) → HeldIfAny (bounding_level e (Expr-F.Among x list)) v
  among_level x list h =
      elim (same_tree x e && is_constant list) as (λ b. (same_tree x e && is_constant list) ≡ b → HeldIfAny (cond b (Some (among (constant_value list))) None) v) [
        | true ↦ λ is. let t = both (same_tree x e) (is_constant list) is in
            among_holds order v (constant_value list) (subst (λ w. IsTrue (is_true (in_of w (constant_value list)))) (ap (λ z. value_of z env) (exact x e t.0)) (subst (λ w. IsTrue (is_true (in_of (value_of x env) w))) (constant_here list t.1) h))
        | false ↦ λ is. tt
      ] refl

  not_level : (x : Expr) → IsTrue (is_true (not_of (value_of x env))) → HeldIfAny (denied e (out-Expr x)) v
  not_level x h = denied_holds (out-Expr x) (subst (λ (f : Environment → Value). IsTrue (is_true (not_of (f env)))) (fold_out-Expr (Environment → Value) level_in x) h)

  level_holds : (l : Expr-F Expr) → level_true l → HeldIfAny (bounding_level e l) v
  level_holds (Expr-F.Two o x y) h = two_holds o x y h
  level_holds (Expr-F.Between x low high) h = between_level x low high h
  level_holds (Expr-F.Among x list) h = among_level x list h
  level_holds (Expr-F.Is t x) h = test_level t x h
  level_holds (Expr-F.Not x) h = not_level x h
  level_holds l h = tt

  pub bounding_holds : (c : Expr) → IsTrue (is_true (value_of c env)) → HeldIfAny (bounding e c) v
  bounding_holds c h = level_holds (out-Expr c) (subst (λ (f : Environment → Value). IsTrue (is_true (f env))) (fold_out-Expr (Environment → Value) level_in c) h)
