-- The value of an expression on a group, level by level; and where it is that of the expression alone.
use Rattle.std.proofs.Common.{◌≡◌, ℕ, Bool, true, ◌&&◌, List, [], ◌∷◌, map, Option, Some, None, IsTrue, refl, sym, ap, ap₂, subst, ◌∙◌}
use mathlib.Core.Path.{fun_ext}
use Rattle.n1ql_value.specs.declared.value.Value.{Value}
use Rattle.n1ql_ast.specs.declared.agg.Agg.{Agg}
use Rattle.n1ql_ast.specs.declared.expr.Expr.{Expr, fold-Expr, fold-roll-Expr, ind-Expr, map-Expr, roll-Expr}
use Rattle.n1ql_ast.specs.declared.expr.Expr.TheOpen.{Expr-F}
use Rattle.n1ql_ast.specs.declared.expr.Expr.TheVariants as expr
use Rattle.n1ql_ast.specs.Bindings.{holds_within, in_scope}
use Rattle.n1ql_ast.specs.Evaluation.{Environment, inside, level_in, value_of}
use Rattle.n1ql_ast.specs.Forms.{all_hold, has_no_aggregate, is_no_aggregate, of_each_part}
use Rattle.n1ql_ast.proofs.Congruence.{GoesByLevels, LeafSame, agrees, level_with}
use Rattle.n1ql_meaning.specs.Groups.{level_over, over_rows, value_over}

pub value_over-roll : (group : Option (List Environment)) (l : Expr-F Expr) (env : Environment)
    → value_over group (roll-Expr l) env ≡ level_over group (map-Expr Expr (Environment → Value) (value_over group) l) env
value_over-roll group l env = ap (λ (f : Environment → Value). f env) (fold-roll-Expr (Environment → Value) (level_over group) l)

-- outside of a group
level_none : (l : Expr-F (Environment → Value)) (env : Environment) → level_over None l env ≡ level_in l env
level_none (Expr-F.Agg agg x) env = refl
level_none l env = refl

value_over-None : value_over None ≡ value_of
value_over-None = ap (fold-Expr (Environment → Value)) (fun_ext (λ l. fun_ext (λ env. level_none l env)))

pub plain_outside : (e : Expr) (env : Environment) → value_over None e env ≡ value_of e env
plain_outside e env = ap (λ (f : Expr → Environment → Value). f e env) value_over-None

-- as the congruence of evaluation has it
level_group : (group : Option (List Environment)) (l : Expr-F (Environment → Value)) (env : Environment) → level_over group l env ≡ level_with (over_rows group) l env
level_group group (Expr-F.Agg agg x) env = refl
level_group group l env = refl

pub value_over-goes : (group : Option (List Environment)) → GoesByLevels (over_rows group) (value_over group)
value_over-goes group l env = value_over-roll group l env ∙ level_group group (map-Expr Expr (Environment → Value) (value_over group) l) env

pub value_over-Agg : (group : Option (List Environment)) (agg : Agg) (x : Option Expr) (env : Environment)
    → value_over group (expr.Agg agg x) env ≡ level_over group (map-Expr Expr (Environment → Value) (value_over group) (Expr-F.Agg agg x)) env
value_over-Agg group agg x env = ap (λ e. value_over group e env) (sym (expr.rolls-Agg agg x)) ∙ value_over-roll group (Expr-F.Agg agg x) env

-- ---- expressions without aggregates

abbrev stay : List ℕ → Unit {0} → Unit {0}
stay name s = s

abbrev own : Expr-F (Unit {0} → Bool) → Unit {0} → Bool
own l s = is_no_aggregate l

abbrev holds : Expr → Unit {0} → Bool
holds = holds_within stay own

abbrev SameTest : Expr → Type 0
SameTest e = holds e tt ≡ has_no_aggregate e

abbrev Known : Type 0
Known = (e : Expr) × SameTest e

abbrev top : Expr-F Known → Expr-F Expr
top y = map-Expr Known Expr (λ k. k.0) y

abbrev Tested : Expr-F Expr → Type 0
Tested l = (own (map-Expr Expr (Unit {0} → Bool) holds l) tt && of_each_part (in_scope stay (map-Expr Expr (Unit {0} → Bool) holds l) tt))
    ≡ (is_no_aggregate (map-Expr Expr Bool has_no_aggregate l) && of_each_part (map-Expr Expr Bool has_no_aggregate l))

all_tested : (xs : List Known) → all_hold (map (λ (x : Unit {0} → Bool). x tt) (map holds (map (λ (k : Known). k.0) xs))) ≡ all_hold (map has_no_aggregate (map (λ (k : Known). k.0) xs))
all_tested [] = refl
all_tested (x ∷ xs) = ap₂ ◌&&◌ x.1 (all_tested xs)

level_tested : (y : Expr-F Known) → Tested (top y)
level_tested (Expr-F.Const v) = refl
level_tested Expr-F.Doc = refl
level_tested (Expr-F.MetaOf own) = refl
level_tested (Expr-F.Var name) = refl
level_tested (Expr-F.Key at) = refl
level_tested (Expr-F.Field x name) = x.1
level_tested (Expr-F.Place x at) = ap₂ ◌&&◌ x.1 at.1
level_tested (Expr-F.Not x) = x.1
level_tested (Expr-F.Neg x) = x.1
level_tested (Expr-F.Two op x y) = ap₂ ◌&&◌ x.1 y.1
level_tested (Expr-F.Is test x) = x.1
level_tested (Expr-F.Among x y) = ap₂ ◌&&◌ x.1 y.1
level_tested (Expr-F.Between x low high) = ap₂ ◌&&◌ x.1 (ap₂ ◌&&◌ low.1 high.1)
level_tested (Expr-F.Call fun xs) = all_tested xs
level_tested (Expr-F.List xs) = all_tested xs
level_tested (Expr-F.Build names xs) = all_tested xs
level_tested (Expr-F.Case whens thens None) = ap₂ ◌&&◌ (all_tested whens) (ap (λ b. b && true) (all_tested thens))
level_tested (Expr-F.Case whens thens (Some other)) = ap₂ ◌&&◌ (all_tested whens) (ap₂ ◌&&◌ (all_tested thens) other.1)
level_tested (Expr-F.Any name over test) = ap₂ ◌&&◌ over.1 test.1
level_tested (Expr-F.Every name over test) = ap₂ ◌&&◌ over.1 test.1
level_tested (Expr-F.Each name item over None) = ap₂ ◌&&◌ item.1 (ap (λ b. b && true) over.1)
level_tested (Expr-F.Each name item over (Some when)) = ap₂ ◌&&◌ item.1 (ap₂ ◌&&◌ over.1 when.1)
level_tested (Expr-F.First name item over None) = ap₂ ◌&&◌ item.1 (ap (λ b. b && true) over.1)
level_tested (Expr-F.First name item over (Some when)) = ap₂ ◌&&◌ item.1 (ap₂ ◌&&◌ over.1 when.1)
level_tested (Expr-F.Agg agg x) = refl

tested_at : (y : Expr-F Known) → SameTest (roll-Expr (top y))
tested_at y =
    ap (λ (f : Unit {0} → Bool). f tt) (fold-roll-Expr (Unit {0} → Bool) (λ l s. own l s && of_each_part (in_scope stay l s)) (top y))
    ∙ (level_tested y ∙ sym (fold-roll-Expr Bool (λ l. is_no_aggregate l && of_each_part l) (top y)))

same_test : (e : Expr) → SameTest e
same_test = ind-Expr SameTest (λ x y is. subst (λ z. SameTest (roll-Expr z)) is (tested_at y))

abbrev Equal : Unit {0} → Environment → Environment → Type 0
Equal s a b = a ≡ b

-- they read the environment alone
plain_leaf : (p q : Option (List Environment)) (s : Unit {0}) (l : Expr-F Expr) → IsTrue (own (map-Expr Expr (Unit {0} → Bool) holds l) s)
    → LeafSame Equal (over_rows p) (over_rows q) (value_over p) (value_over q) s l
plain_leaf p q s Expr-F.Doc h = λ a b r. ap (λ (env : Environment). env.doc) r
plain_leaf p q s (Expr-F.MetaOf own) h = λ a b r. ap (λ (env : Environment). level_in (Expr-F.MetaOf own) env) r
plain_leaf p q s (Expr-F.Var name) h = λ a b r. ap (λ (env : Environment). level_in (Expr-F.Var name) env) r
plain_leaf p q s (Expr-F.Key at) h = λ a b r. ap (λ (env : Environment). level_in (Expr-F.Key at) env) r
plain_leaf p q s (Expr-F.Agg agg x) h = absurd cc
plain_leaf p q s _ h = tt

pub plain_without : (e : Expr) → IsTrue (has_no_aggregate e) → (group : Option (List Environment)) (env : Environment) → value_over group e env ≡ value_of e env
plain_without e h group env =
    agrees stay Equal (λ s name v a b r. ap (inside name v) r) (over_rows group) (over_rows None) (value_over group) (value_over None) own
    (value_over-goes group) (value_over-goes None) (plain_leaf group None) e tt (subst IsTrue (sym (same_test e)) h) env env refl
    ∙ plain_outside e env
