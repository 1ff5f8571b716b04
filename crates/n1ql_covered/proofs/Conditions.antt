-- WHERE over the keys, without what the filter of the index says, is TRUE of what is shown of a document that the filter admits exactly
-- where WHERE is TRUE on the document.
use Rattle.std.proofs.Common.{◌≡◌, ℕ, Bool, true, false, not, ◌&&◌, ◌||◌, List, [], ◌∷◌, ◌++◌, map, Option, Some, None, IsTrue, cond, refl, sym, ap, ap₂, subst, ◌∙◌}
use Rattle.std.specs.List.{AllByRecursion, filter, fold, list_all, list_any}
use Rattle.n1ql_value.specs.declared.op.Op.TheVariants.{And}
use Rattle.n1ql_value.specs.declared.value.Value.{Value}
use Rattle.n1ql_value.specs.Kinds.{is_true}
use Rattle.n1ql_ast.specs.declared.expr.Expr.{Expr}
use Rattle.n1ql_ast.specs.declared.expr.Expr.TheVariants as expr
use Rattle.n1ql_ast.specs.declared.selection.Selection.{Selection}
use Rattle.n1ql_ast.specs.Conjunction.{all_true, conjuncts_in, conjuncts_of}
use Rattle.n1ql_ast.specs.Equality.{same_tree}
use Rattle.n1ql_ast.specs.Evaluation.{Environment, on_document, value_of}
use Rattle.n1ql_ast.specs.FormedStatements.{IsFormedIn}
use Rattle.index_def.specs.declared.definition.IndexDef.{IndexDef}
use Rattle.index_def.specs.Keys.{is_admitted}
use Rattle.n1ql_spans.specs.Covering.{is_covered, over_keys, plain_keys, rest_of}
use Rattle.n1ql_spans.specs.Spans.{is_among}
use Rattle.n1ql_meaning.specs.Likeness.{WhereAlike, viewed}
use Rattle.n1ql_meaning.specs.Rows.{document_with, meets}
use Rattle.n1ql_covered.specs.OverKeys.{and_with, joined, over_index}
use Rattle.n1ql_covered.specs.ShownRows.{keys_on}
use Rattle.n1ql_covered.proofs.Reading.{TreeLaws, both, plain_reads}

pub record ConjunctLaws : Type 0 where
  pub condition : (e : Expr) (env : Environment) → is_true (value_of e env) ≡ all_true (conjuncts_of e) env
  pub both_operands : (x y : Expr) → conjuncts_of (expr.Two And x y) ≡ conjuncts_of x ++ conjuncts_of y

and_true : (a : Bool) → a ≡ (a && true)
and_true true = refl
and_true false = refl

and_grouped : (a b c : Bool) → ((a && b) && c) ≡ (a && (b && c))
and_grouped true b c = refl
and_grouped false b c = refl

all_joined : {X : Type 0} (so : X → Bool) (xs ys : List X) → list_all so (xs ++ ys) ≡ (list_all so xs && list_all so ys)
all_joined so [] ys = refl
all_joined so (x ∷ xs) ys = ap (λ b. so x && b) (all_joined so xs ys) ∙ sym (and_grouped (so x) (list_all so xs) (list_all so ys))

module _ (conjuncts : ConjunctLaws) (env : Environment) where
  abbrev holds : Expr → Bool
  holds e = is_true (value_of e env)

  and_holds : (x y : Expr) → holds (expr.Two And x y) ≡ (holds x && holds y)
  and_holds x y =
      conjuncts.condition (expr.Two And x y) env
      ∙ (ap (λ es. all_true es env) (conjuncts.both_operands x y)
      ∙ (all_joined holds (conjuncts_of x) (conjuncts_of y)
      ∙ ap₂ ◌&&◌ (sym (conjuncts.condition x env)) (sym (conjuncts.condition y env))))

  fold_holds : (e : Expr) (es : List Expr) → meets (fold and_with (Some e) es) env ≡ (holds e && all_true es env)
  fold_holds e [] = and_true (holds e)
  fold_holds e (d ∷ ds) =
      fold_holds (expr.Two And e d) ds
      ∙ (ap (λ b. b && all_true ds env) (and_holds e d) ∙ and_grouped (holds e) (holds d) (all_true ds env))

  joined_holds : (es : List Expr) → meets (joined es) env ≡ all_true es env
  joined_holds [] = refl
  joined_holds (e ∷ es) = fold_holds e es

  pub where_holds : (filter : Option Expr) → meets filter env ≡ all_true (conjuncts_in filter) env
  where_holds None = refl
  where_holds (Some e) = conjuncts.condition e env

module _ (trees : TreeLaws) (env : Environment) where
  -- what is the same as a condition that is TRUE is TRUE
  among_holds : (fs : List Expr) (c : Expr) → IsTrue (all_true fs env) → is_among fs c ≡ true → is_true (value_of c env) ≡ true
  among_holds [] c h is = absurd cc
  among_holds (f ∷ fs) c h is =
      let two = both (is_true (value_of f env)) (all_true fs env) h in
      elim (same_tree c f) as (λ b. same_tree c f ≡ b → (b || is_among fs c) ≡ true → is_true (value_of c env) ≡ true) [
        | true ↦ λ same k. ap (λ x. is_true (value_of x env)) ((trees.same c f).0 same) ∙ two.0
        | false ↦ λ same k. among_holds fs c two.1 k
      ] refl is

  rest_holds : (fs : List Expr) → IsTrue (all_true fs env) → (cs : List Expr) → all_true (rest_of fs cs) env ≡ all_true cs env
  rest_holds fs h [] = refl
  rest_holds fs h (c ∷ cs) =
      elim (is_among fs c) as (λ b. is_among fs c ≡ b → all_true (cond (not b) (c ∷ rest_of fs cs) (rest_of fs cs)) env ≡ (is_true (value_of c env) && all_true cs env)) [
        | true ↦ λ is. rest_holds fs h cs ∙ sym (ap (λ b. b && all_true cs env) (among_holds fs c h is))
        | false ↦ λ is. ap (λ b. is_true (value_of c env) && b) (rest_holds fs h cs)
      ] refl

module _ (trees : TreeLaws) (keys : List Expr) (formed : AllByRecursion (IsFormedIn []) keys) (env : Environment) where
  over_holds : (es : List Expr) → IsTrue (list_all (is_covered keys) es) → all_true (map (over_keys keys) es) (viewed (keys_on keys) env) ≡ all_true es env
  over_holds [] h = refl
  over_holds (e ∷ es) h =
      let two = both (is_covered keys e) (list_all (is_covered keys) es) h in
      ap₂ (λ v b. is_true v && b) (plain_reads keys trees formed e two.0 env) (over_holds es two.1)

module _ (trees : TreeLaws) where
  -- the filter reads no bound names
  filter_holds : (fs : List Expr) → AllByRecursion (IsFormedIn []) fs → (bound : List (List ℕ × Value)) (e : List ℕ × Value)
      → all_true fs (on_document e.0 e.1 []) ≡ all_true fs (document_with bound e)
  filter_holds [] formed bound e = refl
  filter_holds (f ∷ fs) formed bound e =
      ap₂ (λ v b. is_true v && b)
      (trees.closed f [] formed.0.1 (on_document e.0 e.1 []) (document_with bound e) (record { id = refl; doc = refl; keys = refl; bound = λ n h. absurd cc }))
      (filter_holds fs formed.1 bound e)

  pub where_alike : ConjunctLaws → (def : IndexDef) → AllByRecursion (IsFormedIn []) (plain_keys def.keys) → AllByRecursion (IsFormedIn []) def.filter → (q : Selection Expr)
      → IsTrue (list_all (is_covered (plain_keys def.keys)) (rest_of def.filter (conjuncts_in q.filter)))
      → (e : List ℕ × Value) → IsTrue (is_admitted def (on_document e.0 e.1 [])) → WhereAlike (keys_on (plain_keys def.keys)) (over_index q def) q e
  where_alike conjuncts def keys_formed filter_formed q covered e admitted bound at =
      let keys : List Expr = plain_keys def.keys in
      let env : Environment = document_with bound e in
      let left : List Expr = rest_of def.filter (conjuncts_in q.filter) in
      joined_holds conjuncts (viewed (keys_on keys) env) (map (over_keys keys) left)
      ∙ (over_holds trees keys keys_formed env left covered
      ∙ (rest_holds trees env def.filter (subst IsTrue (filter_holds def.filter filter_formed bound e) admitted) (conjuncts_in q.filter)
      ∙ sym (where_holds conjuncts env q.filter)))
