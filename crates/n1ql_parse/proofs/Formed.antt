-- Each tree that the grammar reads keeps what is allowed of its levels, by the cases of the grammar.
use Rattle.std.proofs.Common.{◌≡◌, ℕ, suc, Bool, false, List, [], length, Option, Some, None, refl, ap}
use Rattle.n1ql_value.specs.declared.op.Op.TheVariants as op
use Rattle.n1ql_ast.specs.declared.agg.Agg.TheVariants as over_rows
use Rattle.n1ql_ast.specs.declared.expr.Expr.{Expr}
use Rattle.n1ql_ast.specs.declared.token_class.TokenClass.{TokenClass}
use Rattle.n1ql_ast.specs.declared.unresolved_expr.UnresolvedExpr.{UnresolvedExpr}
use Rattle.n1ql_ast.specs.declared.test.Test.TheVariants as test
use Rattle.n1ql_ast.specs.Grammar as g
use Rattle.n1ql_ast.specs.Grammar.{IsExpr, MoreOr, IsAnd, MoreAnd, IsNot, IsRel, MayTest, IsTest, IsRange, IsAdd, MoreAdd, IsMul, MoreMul, IsNeg, IsPost, MorePost, IsPrim, IsExprs, MoreExprs, IsObject, IsPairs, MorePairs, IsArms, MoreArms, MayElse, IsQuantified, IsEach, MayWhen}
use Rattle.n1ql_parse.proofs.Kept.{Allows, Keeps, KeepAll, KeepsIfAny, keep-none, keep-more, keeps-if-none, keeps-if-some, keeps-Const, keeps-Name, keeps-Meta, keeps-Field, keeps-Place, keeps-Not, keeps-Neg, keeps-Two, keeps-Is, keeps-Among, keeps-Between, keeps-Any, keeps-Every, keeps-Each, keeps-First, keeps-Call, keeps-List, keeps-Build, keeps-Case, keeps-Agg}

-- the pairs of an object, and the arms of CASE
record Entries (good : Expr → Bool) (names : List (List ℕ)) (xs : List UnresolvedExpr) : Type 0 where
  count : length names ≡ length xs
  values : KeepAll good xs

record Arms (good : Expr → Bool) (xs ys : List UnresolvedExpr) : Type 0 where
  count : length xs ≡ length ys
  whens : KeepAll good xs
  thens : KeepAll good ys

record Over (good : Expr → Bool) (x y : UnresolvedExpr) : Type 0 where
  first : Keeps good x
  second : Keeps good y

pub record Items (good : Expr → Bool) (x y : UnresolvedExpr) (when : Option UnresolvedExpr) : Type 0 where
  pub item : Keeps good x
  pub over : Keeps good y
  pub passes : KeepsIfAny good when

mutual
  pub kept : (good : Bool → Expr → Bool) (agg : Bool) {ts rest : List TokenClass} {x : UnresolvedExpr} → Allows good → IsExpr agg ts x rest → Keeps (good agg) x
  kept good agg ok (g.expr p m) = kept-or good agg ok (kept-and good agg ok p) m

  kept-or : (good : Bool → Expr → Bool) (agg : Bool) {ts rest : List TokenClass} {x y : UnresolvedExpr} → Allows good → Keeps (good agg) x → MoreOr agg x ts y rest → Keeps (good agg) y
  kept-or good agg ok k g.or_done = k
  kept-or good agg ok k (g.or_more {x = x} {y = y} p m) = kept-or good agg ok (keeps-Two good agg op.Or x y ok k (kept-and good agg ok p)) m

  kept-and : (good : Bool → Expr → Bool) (agg : Bool) {ts rest : List TokenClass} {x : UnresolvedExpr} → Allows good → IsAnd agg ts x rest → Keeps (good agg) x
  kept-and good agg ok (g.and p m) = kept-more_and good agg ok (kept-not good agg ok p) m

  kept-more_and : (good : Bool → Expr → Bool) (agg : Bool) {ts rest : List TokenClass} {x y : UnresolvedExpr} → Allows good → Keeps (good agg) x → MoreAnd agg x ts y rest → Keeps (good agg) y
  kept-more_and good agg ok k g.and_done = k
  kept-more_and good agg ok k (g.and_more {x = x} {y = y} p m) = kept-more_and good agg ok (keeps-Two good agg op.And x y ok k (kept-not good agg ok p)) m

  kept-not : (good : Bool → Expr → Bool) (agg : Bool) {ts rest : List TokenClass} {x : UnresolvedExpr} → Allows good → IsNot agg ts x rest → Keeps (good agg) x
  kept-not good agg ok (g.not_not {x = x} p) = keeps-Not good agg x ok (kept-not good agg ok p)
  kept-not good agg ok (g.not_rel p) = kept-rel good agg ok p

  kept-rel : (good : Bool → Expr → Bool) (agg : Bool) {ts rest : List TokenClass} {x : UnresolvedExpr} → Allows good → IsRel agg ts x rest → Keeps (good agg) x
  kept-rel good agg ok (g.rel p m) = kept-test good agg ok (kept-add good agg ok p) m

  kept-test : (good : Bool → Expr → Bool) (agg : Bool) {ts rest : List TokenClass} {x y : UnresolvedExpr} → Allows good → Keeps (good agg) x → MayTest agg x ts y rest → Keeps (good agg) y
  kept-test good agg ok k g.test_none = k
  kept-test good agg ok k (g.test_compare {o = o} {x = x} {y = y} e p) = keeps-Two good agg o x y ok k (kept-add good agg ok p)
  kept-test good agg ok k (g.test_is p) = kept-is good agg ok k p
  kept-test good agg ok k (g.test_is_not {y = y} p) = keeps-Not good agg y ok (kept-is good agg ok k p)
  kept-test good agg ok k (g.test_range p) = kept-range good agg ok k p
  kept-test good agg ok k (g.test_not_range {y = y} p) = keeps-Not good agg y ok (kept-range good agg ok k p)

  kept-is : (good : Bool → Expr → Bool) (agg : Bool) {ts rest : List TokenClass} {x y : UnresolvedExpr} → Allows good → Keeps (good agg) x → IsTest x ts y rest → Keeps (good agg) y
  kept-is good agg ok k (g.is_null {x = x}) = keeps-Is good agg test.Null x ok k
  kept-is good agg ok k (g.is_missing {x = x}) = keeps-Is good agg test.Missing x ok k
  kept-is good agg ok k (g.is_valued {x = x}) = keeps-Is good agg test.Valued x ok k

  kept-range : (good : Bool → Expr → Bool) (agg : Bool) {ts rest : List TokenClass} {x y : UnresolvedExpr} → Allows good → Keeps (good agg) x → IsRange agg x ts y rest → Keeps (good agg) y
  kept-range good agg ok k (g.range_in {x = x} {y = y} p) = keeps-Among good agg x y ok k (kept-add good agg ok p)
  kept-range good agg ok k (g.range_between {x = x} {low = low} {high = high} p q) = keeps-Between good agg x low high ok k (kept-add good agg ok p) (kept-add good agg ok q)

  kept-add : (good : Bool → Expr → Bool) (agg : Bool) {ts rest : List TokenClass} {x : UnresolvedExpr} → Allows good → IsAdd agg ts x rest → Keeps (good agg) x
  kept-add good agg ok (g.add p m) = kept-more_add good agg ok (kept-mul good agg ok p) m

  kept-more_add : (good : Bool → Expr → Bool) (agg : Bool) {ts rest : List TokenClass} {x y : UnresolvedExpr} → Allows good → Keeps (good agg) x → MoreAdd agg x ts y rest → Keeps (good agg) y
  kept-more_add good agg ok k g.add_done = k
  kept-more_add good agg ok k (g.add_more {o = o} {x = x} {y = y} e p m) = kept-more_add good agg ok (keeps-Two good agg o x y ok k (kept-mul good agg ok p)) m

  kept-mul : (good : Bool → Expr → Bool) (agg : Bool) {ts rest : List TokenClass} {x : UnresolvedExpr} → Allows good → IsMul agg ts x rest → Keeps (good agg) x
  kept-mul good agg ok (g.mul p m) = kept-more_mul good agg ok (kept-neg good agg ok p) m

  kept-more_mul : (good : Bool → Expr → Bool) (agg : Bool) {ts rest : List TokenClass} {x y : UnresolvedExpr} → Allows good → Keeps (good agg) x → MoreMul agg x ts y rest → Keeps (good agg) y
  kept-more_mul good agg ok k g.mul_done = k
  kept-more_mul good agg ok k (g.mul_more {o = o} {x = x} {y = y} e p m) = kept-more_mul good agg ok (keeps-Two good agg o x y ok k (kept-neg good agg ok p)) m

  kept-neg : (good : Bool → Expr → Bool) (agg : Bool) {ts rest : List TokenClass} {x : UnresolvedExpr} → Allows good → IsNeg agg ts x rest → Keeps (good agg) x
  kept-neg good agg ok (g.neg_neg {x = x} p) = keeps-Neg good agg x ok (kept-neg good agg ok p)
  kept-neg good agg ok g.neg_least = keeps-Const good agg _ ok
  kept-neg good agg ok (g.neg_post p) = kept-post good agg ok p

  kept-post : (good : Bool → Expr → Bool) (agg : Bool) {ts rest : List TokenClass} {x : UnresolvedExpr} → Allows good → IsPost agg ts x rest → Keeps (good agg) x
  kept-post good agg ok (g.post p m) = kept-path good agg ok (kept-prim good agg ok p) m

  kept-path : (good : Bool → Expr → Bool) (agg : Bool) {ts rest : List TokenClass} {x y : UnresolvedExpr} → Allows good → Keeps (good agg) x → MorePost agg x ts y rest → Keeps (good agg) y
  kept-path good agg ok k g.post_done = k
  kept-path good agg ok k (g.post_field {name = name} {x = x} m) = kept-path good agg ok (keeps-Field good agg x name ok k) m
  kept-path good agg ok k (g.post_place {x = x} {y = y} p m) = kept-path good agg ok (keeps-Place good agg x y ok k (kept good agg ok p)) m

  kept-prim : (good : Bool → Expr → Bool) (agg : Bool) {ts rest : List TokenClass} {x : UnresolvedExpr} → Allows good → IsPrim agg ts x rest → Keeps (good agg) x
  kept-prim good agg ok (g.prim_number below) = keeps-Const good agg _ ok
  kept-prim good agg ok g.prim_string = keeps-Const good agg _ ok
  kept-prim good agg ok g.prim_true = keeps-Const good agg _ ok
  kept-prim good agg ok g.prim_false = keeps-Const good agg _ ok
  kept-prim good agg ok g.prim_null = keeps-Const good agg _ ok
  kept-prim good agg ok g.prim_missing = keeps-Const good agg _ ok
  kept-prim good agg ok (g.prim_name {name = name}) = keeps-Name good agg name ok
  kept-prim good agg ok (g.prim_parenthesis p) = kept good agg ok p
  kept-prim good agg ok g.prim_empty = keeps-List good agg [] ok (keep-none (good agg))
  kept-prim good agg ok (g.prim_list {xs = xs} p) = keeps-List good agg xs ok (kept-all good agg ok p)
  kept-prim good agg ok (g.prim_object p) = kept-object good agg ok p
  kept-prim good agg ok (g.prim_case {whens = whens} {thens = thens} {other = other} p q) =
      let a = kept-arms good agg ok p in keeps-Case good agg whens thens other ok a.count a.whens a.thens (kept-else good agg ok q)
  kept-prim good agg ok (g.prim_any {name = name} {over = over} {test = test} p) =
      let q = kept-quantified good agg ok p in keeps-Any good agg name over test ok q.first q.second
  kept-prim good agg ok (g.prim_every {name = name} {over = over} {test = test} p) =
      let q = kept-quantified good agg ok p in keeps-Every good agg name over test ok q.first q.second
  kept-prim good agg ok (g.prim_array {name = name} {item = item} {over = over} {when = when} p) =
      let q = kept-each good agg ok p in keeps-Each good agg name item over when ok q.item q.over q.passes
  kept-prim good agg ok (g.prim_first {name = name} {item = item} {over = over} {when = when} p) =
      let q = kept-each good agg ok p in keeps-First good agg name item over when ok q.item q.over q.passes
  kept-prim good agg ok (g.prim_call {fun = fun} {xs = xs} is p count) = keeps-Call good agg fun xs ok count (kept-all good agg ok p)
  kept-prim good agg ok (g.prim_meta is) = keeps-Meta good agg None ok
  kept-prim good agg ok (g.prim_meta_of {whose = whose} is) = keeps-Meta good agg (Some whose) ok
  kept-prim good agg ok (g.prim_count_all is) = keeps-Agg good over_rows.CountAll None ok (keeps-if-none (good false))
  kept-prim good agg ok (g.prim_aggregate {a = a} {x = x} is p) =
      keeps-Agg good a (Some x) ok (keeps-if-some (good false) x (kept good false ok p))

  kept-all : (good : Bool → Expr → Bool) (agg : Bool) {ts rest : List TokenClass} {xs : List UnresolvedExpr} → Allows good → IsExprs agg ts xs rest → KeepAll (good agg) xs
  kept-all good agg ok (g.exprs {x = x} {xs = xs} p m) = keep-more (good agg) x xs (kept good agg ok p) (kept-more_all good agg ok m)

  kept-more_all : (good : Bool → Expr → Bool) (agg : Bool) {ts rest : List TokenClass} {xs : List UnresolvedExpr} → Allows good → MoreExprs agg ts xs rest → KeepAll (good agg) xs
  kept-more_all good agg ok g.exprs_done = keep-none (good agg)
  kept-more_all good agg ok (g.exprs_more p) = kept-all good agg ok p

  pub kept-object : (good : Bool → Expr → Bool) (agg : Bool) {ts rest : List TokenClass} {x : UnresolvedExpr} → Allows good → IsObject agg ts x rest → Keeps (good agg) x
  kept-object good agg ok g.object_empty = keeps-Build good agg [] [] ok refl (keep-none (good agg))
  kept-object good agg ok (g.object_pairs {names = names} {xs = xs} p) =
      let q = kept-pairs good agg ok p in keeps-Build good agg names xs ok q.count q.values

  kept-pairs : (good : Bool → Expr → Bool) (agg : Bool) {ts rest : List TokenClass} {names : List (List ℕ)} {xs : List UnresolvedExpr} → Allows good →
      IsPairs agg ts names xs rest → Entries (good agg) names xs
  kept-pairs good agg ok (g.pairs {x = x} {xs = xs} p m) =
      let q = kept-more_pairs good agg ok m in record { count = ap suc q.count; values = keep-more (good agg) x xs (kept good agg ok p) q.values }

  kept-more_pairs : (good : Bool → Expr → Bool) (agg : Bool) {ts rest : List TokenClass} {names : List (List ℕ)} {xs : List UnresolvedExpr} → Allows good →
      MorePairs agg ts names xs rest → Entries (good agg) names xs
  kept-more_pairs good agg ok g.pairs_done = record { count = refl; values = keep-none (good agg) }
  kept-more_pairs good agg ok (g.pairs_more p) = kept-pairs good agg ok p

  kept-arms : (good : Bool → Expr → Bool) (agg : Bool) {ts rest : List TokenClass} {whens thens : List UnresolvedExpr} → Allows good →
      IsArms agg ts whens thens rest → Arms (good agg) whens thens
  kept-arms good agg ok (g.arms {x = x} {y = y} {whens = whens} {thens = thens} p q m) =
      let r = kept-more_arms good agg ok m in
      record {
        count = ap suc r.count;
        whens = keep-more (good agg) x whens (kept good agg ok p) r.whens;
        thens = keep-more (good agg) y thens (kept good agg ok q) r.thens;
      }

  kept-more_arms : (good : Bool → Expr → Bool) (agg : Bool) {ts rest : List TokenClass} {whens thens : List UnresolvedExpr} → Allows good →
      MoreArms agg ts whens thens rest → Arms (good agg) whens thens
  kept-more_arms good agg ok g.arms_done = record { count = refl; whens = keep-none (good agg); thens = keep-none (good agg) }
  kept-more_arms good agg ok (g.arms_more p) = kept-arms good agg ok p

  kept-else : (good : Bool → Expr → Bool) (agg : Bool) {ts rest : List TokenClass} {other : Option UnresolvedExpr} → Allows good → MayElse agg ts other rest → KeepsIfAny (good agg) other
  kept-else good agg ok g.else_none = keeps-if-none (good agg)
  kept-else good agg ok (g.else_some {x = x} p) = keeps-if-some (good agg) x (kept good agg ok p)

  kept-quantified : (good : Bool → Expr → Bool) (agg : Bool) {ts rest : List TokenClass} {name : List ℕ} {over test : UnresolvedExpr} → Allows good →
      IsQuantified agg ts name over test rest → Over (good agg) over test
  kept-quantified good agg ok (g.quantified p q) = record { first = kept good agg ok p; second = kept good agg ok q }

  pub kept-each : (good : Bool → Expr → Bool) (agg : Bool) {ts rest : List TokenClass} {name : List ℕ} {item over : UnresolvedExpr} {when : Option UnresolvedExpr} → Allows good →
      IsEach agg ts name item over when rest → Items (good agg) item over when
  kept-each good agg ok (g.each p q m) =
      record { item = kept good agg ok p; over = kept good agg ok q; passes = kept-when good agg ok m }

  kept-when : (good : Bool → Expr → Bool) (agg : Bool) {ts rest : List TokenClass} {when : Option UnresolvedExpr} → Allows good → MayWhen agg ts when rest → KeepsIfAny (good agg) when
  kept-when good agg ok g.when_none = keeps-if-none (good agg)
  kept-when good agg ok (g.when_some {x = x} p) = keeps-if-some (good agg) x (kept good agg ok p)
