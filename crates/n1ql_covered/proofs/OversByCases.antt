-- An expression over the keys of an index that isn't read from the row whole, by its parts: a case for each form.
use Rattle.std.proofs.Common.{◌≡◌, ℕ, Bool, false, List, map, Option, Some, None, option_map, sym, ap, ◌∙◌}
use Rattle.std.specs.List.{position}
use Rattle.n1ql_value.specs.declared.fun.Fun.{Fun}
use Rattle.n1ql_value.specs.declared.op.Op.{Op}
use Rattle.n1ql_value.specs.declared.value.Value.{Value}
use Rattle.n1ql_ast.specs.declared.agg.Agg.{Agg}
use Rattle.n1ql_ast.specs.declared.expr.Expr.{Expr, out-Expr, out-roll-Expr, roll-Expr}
use Rattle.n1ql_ast.specs.declared.expr.Expr.TheOpen.{Expr-F}
use Rattle.n1ql_ast.specs.declared.expr.Expr.TheVariants as expr
use Rattle.n1ql_ast.specs.declared.test.Test.{Test}
use Rattle.n1ql_ast.specs.Equality.{same_tree}
use Rattle.n1ql_spans.specs.Covering.{over_keys, own_id}
use Rattle.n1ql_covered.specs.inner.Levels.{level_over}
use Rattle.n1ql_covered.proofs.Overs.{over_by_parts}

abbrev pub place : List Expr → Expr → Option ℕ
place keys e = position (λ (k : Expr). same_tree k e) keys

by_top : (keys : List Expr) (l : Expr-F Expr) (e : Expr) → roll-Expr l ≡ e → place keys e ≡ None → same_tree own_id e ≡ false → over_keys keys e ≡ level_over keys l
by_top keys l e is none apart = over_by_parts keys e none apart ∙ ap (level_over keys) (ap out-Expr (sym is) ∙ out-roll-Expr l)

pub over_const : (keys : List Expr) (v : Value) → place keys (expr.Const v) ≡ None → same_tree own_id (expr.Const v) ≡ false → over_keys keys (expr.Const v) ≡ expr.Const v
over_const keys v none apart = by_top keys (Expr-F.Const v) (expr.Const v) (expr.rolls-Const v) none apart

pub over_doc : (keys : List Expr) → place keys expr.Doc ≡ None → same_tree own_id expr.Doc ≡ false → over_keys keys expr.Doc ≡ expr.Doc
over_doc keys none apart = by_top keys Expr-F.Doc expr.Doc expr.rolls-Doc none apart

pub over_metaof : (keys : List Expr) (own : Bool) → place keys (expr.MetaOf own) ≡ None → same_tree own_id (expr.MetaOf own) ≡ false → over_keys keys (expr.MetaOf own) ≡ expr.MetaOf own
over_metaof keys own none apart = by_top keys (Expr-F.MetaOf own) (expr.MetaOf own) (expr.rolls-MetaOf own) none apart

pub over_var : (keys : List Expr) (name : List ℕ) → place keys (expr.Var name) ≡ None → same_tree own_id (expr.Var name) ≡ false → over_keys keys (expr.Var name) ≡ expr.Var name
over_var keys name none apart = by_top keys (Expr-F.Var name) (expr.Var name) (expr.rolls-Var name) none apart

pub over_key : (keys : List Expr) (at : ℕ) → place keys (expr.Key at) ≡ None → same_tree own_id (expr.Key at) ≡ false → over_keys keys (expr.Key at) ≡ expr.Key at
over_key keys at none apart = by_top keys (Expr-F.Key at) (expr.Key at) (expr.rolls-Key at) none apart

pub over_field : (keys : List Expr) (x : Expr) (name : List ℕ) → place keys (expr.Field x name) ≡ None → same_tree own_id (expr.Field x name) ≡ false → over_keys keys (expr.Field x name) ≡ expr.Field (over_keys keys x) name
over_field keys x name none apart = by_top keys (Expr-F.Field x name) (expr.Field x name) (expr.rolls-Field x name) none apart

pub over_place : (keys : List Expr) (x at : Expr) → place keys (expr.Place x at) ≡ None → same_tree own_id (expr.Place x at) ≡ false → over_keys keys (expr.Place x at) ≡ expr.Place (over_keys keys x) (over_keys keys at)
over_place keys x at none apart = by_top keys (Expr-F.Place x at) (expr.Place x at) (expr.rolls-Place x at) none apart

pub over_not : (keys : List Expr) (x : Expr) → place keys (expr.Not x) ≡ None → same_tree own_id (expr.Not x) ≡ false → over_keys keys (expr.Not x) ≡ expr.Not (over_keys keys x)
over_not keys x none apart = by_top keys (Expr-F.Not x) (expr.Not x) (expr.rolls-Not x) none apart

pub over_neg : (keys : List Expr) (x : Expr) → place keys (expr.Neg x) ≡ None → same_tree own_id (expr.Neg x) ≡ false → over_keys keys (expr.Neg x) ≡ expr.Neg (over_keys keys x)
over_neg keys x none apart = by_top keys (Expr-F.Neg x) (expr.Neg x) (expr.rolls-Neg x) none apart

pub over_two : (keys : List Expr) (op : Op) (x y : Expr) → place keys (expr.Two op x y) ≡ None → same_tree own_id (expr.Two op x y) ≡ false → over_keys keys (expr.Two op x y) ≡ expr.Two op (over_keys keys x) (over_keys keys y)
over_two keys op x y none apart = by_top keys (Expr-F.Two op x y) (expr.Two op x y) (expr.rolls-Two op x y) none apart

pub over_is : (keys : List Expr) (test : Test) (x : Expr) → place keys (expr.Is test x) ≡ None → same_tree own_id (expr.Is test x) ≡ false → over_keys keys (expr.Is test x) ≡ expr.Is test (over_keys keys x)
over_is keys test x none apart = by_top keys (Expr-F.Is test x) (expr.Is test x) (expr.rolls-Is test x) none apart

pub over_among : (keys : List Expr) (x list : Expr) → place keys (expr.Among x list) ≡ None → same_tree own_id (expr.Among x list) ≡ false → over_keys keys (expr.Among x list) ≡ expr.Among (over_keys keys x) (over_keys keys list)
over_among keys x list none apart = by_top keys (Expr-F.Among x list) (expr.Among x list) (expr.rolls-Among x list) none apart

pub over_between : (keys : List Expr) (x low high : Expr) → place keys (expr.Between x low high) ≡ None → same_tree own_id (expr.Between x low high) ≡ false → over_keys keys (expr.Between x low high) ≡ expr.Between (over_keys keys x) (over_keys keys low) (over_keys keys high)
over_between keys x low high none apart = by_top keys (Expr-F.Between x low high) (expr.Between x low high) (expr.rolls-Between x low high) none apart

pub over_call : (keys : List Expr) (fun : Fun) (xs : List Expr) → place keys (expr.Call fun xs) ≡ None → same_tree own_id (expr.Call fun xs) ≡ false → over_keys keys (expr.Call fun xs) ≡ expr.Call fun (map (over_keys keys) xs)
over_call keys fun xs none apart = by_top keys (Expr-F.Call fun xs) (expr.Call fun xs) (expr.rolls-Call fun xs) none apart

pub over_list : (keys : List Expr) (xs : List Expr) → place keys (expr.List xs) ≡ None → same_tree own_id (expr.List xs) ≡ false → over_keys keys (expr.List xs) ≡ expr.List (map (over_keys keys) xs)
over_list keys xs none apart = by_top keys (Expr-F.List xs) (expr.List xs) (expr.rolls-List xs) none apart

pub over_build : (keys : List Expr) (names : List (List ℕ)) (xs : List Expr) → place keys (expr.Build names xs) ≡ None → same_tree own_id (expr.Build names xs) ≡ false → over_keys keys (expr.Build names xs) ≡ expr.Build names (map (over_keys keys) xs)
over_build keys names xs none apart = by_top keys (Expr-F.Build names xs) (expr.Build names xs) (expr.rolls-Build names xs) none apart

pub over_case : (keys : List Expr) (whens thens : List Expr) (other : Option Expr) → place keys (expr.Case whens thens other) ≡ None → same_tree own_id (expr.Case whens thens other) ≡ false → over_keys keys (expr.Case whens thens other) ≡ expr.Case (map (over_keys keys) whens) (map (over_keys keys) thens) (option_map (over_keys keys) other)
over_case keys whens thens None none apart = by_top keys (Expr-F.Case whens thens None) (expr.Case whens thens None) (expr.rolls-Case whens thens None) none apart
over_case keys whens thens (Some other) none apart = by_top keys (Expr-F.Case whens thens (Some other)) (expr.Case whens thens (Some other)) (expr.rolls-Case whens thens (Some other)) none apart

pub over_any : (keys : List Expr) (name : List ℕ) (over test : Expr) → place keys (expr.Any name over test) ≡ None → same_tree own_id (expr.Any name over test) ≡ false → over_keys keys (expr.Any name over test) ≡ expr.Any name (over_keys keys over) (over_keys keys test)
over_any keys name over test none apart = by_top keys (Expr-F.Any name over test) (expr.Any name over test) (expr.rolls-Any name over test) none apart

pub over_every : (keys : List Expr) (name : List ℕ) (over test : Expr) → place keys (expr.Every name over test) ≡ None → same_tree own_id (expr.Every name over test) ≡ false → over_keys keys (expr.Every name over test) ≡ expr.Every name (over_keys keys over) (over_keys keys test)
over_every keys name over test none apart = by_top keys (Expr-F.Every name over test) (expr.Every name over test) (expr.rolls-Every name over test) none apart

pub over_each : (keys : List Expr) (name : List ℕ) (item over : Expr) (when : Option Expr) → place keys (expr.Each name item over when) ≡ None → same_tree own_id (expr.Each name item over when) ≡ false → over_keys keys (expr.Each name item over when) ≡ expr.Each name (over_keys keys item) (over_keys keys over) (option_map (over_keys keys) when)
over_each keys name item over None none apart = by_top keys (Expr-F.Each name item over None) (expr.Each name item over None) (expr.rolls-Each name item over None) none apart
over_each keys name item over (Some when) none apart = by_top keys (Expr-F.Each name item over (Some when)) (expr.Each name item over (Some when)) (expr.rolls-Each name item over (Some when)) none apart

pub over_first : (keys : List Expr) (name : List ℕ) (item over : Expr) (when : Option Expr) → place keys (expr.First name item over when) ≡ None → same_tree own_id (expr.First name item over when) ≡ false → over_keys keys (expr.First name item over when) ≡ expr.First name (over_keys keys item) (over_keys keys over) (option_map (over_keys keys) when)
over_first keys name item over None none apart = by_top keys (Expr-F.First name item over None) (expr.First name item over None) (expr.rolls-First name item over None) none apart
over_first keys name item over (Some when) none apart = by_top keys (Expr-F.First name item over (Some when)) (expr.First name item over (Some when)) (expr.rolls-First name item over (Some when)) none apart

pub over_agg : (keys : List Expr) (agg : Agg) (x : Option Expr) → place keys (expr.Agg agg x) ≡ None → same_tree own_id (expr.Agg agg x) ≡ false → over_keys keys (expr.Agg agg x) ≡ expr.Agg agg (option_map (over_keys keys) x)
over_agg keys agg None none apart = by_top keys (Expr-F.Agg agg None) (expr.Agg agg None) (expr.rolls-Agg agg None) none apart
over_agg keys agg (Some x) none apart = by_top keys (Expr-F.Agg agg (Some x)) (expr.Agg agg (Some x)) (expr.rolls-Agg agg (Some x)) none apart

-- ---- of what the code made of the parts

module _ (keys : List Expr) (e : Expr) (none : place keys e ≡ None) (apart : same_tree own_id e ≡ false) where
  pub case_made : (whens thens : List Expr) (other : Option Expr) (ws ts : List Expr) (o : Option Expr) → e ≡ expr.Case whens thens other
      → ws ≡ map (over_keys keys) whens → ts ≡ map (over_keys keys) thens → o ≡ option_map (over_keys keys) other → expr.Case ws ts o ≡ over_keys keys e
  case_made whens thens other ws ts o is w t u =
      (λ i. expr.Case (w i) (t i) (u i))
      ∙ (sym (over_case keys whens thens other (ap (place keys) (sym is) ∙ none) (ap (same_tree own_id) (sym is) ∙ apart)) ∙ ap (over_keys keys) (sym is))

  pub each_made : (name : List ℕ) (item over : Expr) (when : Option Expr) (n : List ℕ) (i o : Expr) (w : Option Expr) → e ≡ expr.Each name item over when
      → n ≡ name → i ≡ over_keys keys item → o ≡ over_keys keys over → w ≡ option_map (over_keys keys) when → expr.Each n i o w ≡ over_keys keys e
  each_made name item over when n i o w is names items overs whens =
      (λ j. expr.Each (names j) (items j) (overs j) (whens j))
      ∙ (sym (over_each keys name item over when (ap (place keys) (sym is) ∙ none) (ap (same_tree own_id) (sym is) ∙ apart)) ∙ ap (over_keys keys) (sym is))

  pub first_made : (name : List ℕ) (item over : Expr) (when : Option Expr) (n : List ℕ) (i o : Expr) (w : Option Expr) → e ≡ expr.First name item over when
      → n ≡ name → i ≡ over_keys keys item → o ≡ over_keys keys over → w ≡ option_map (over_keys keys) when → expr.First n i o w ≡ over_keys keys e
  first_made name item over when n i o w is names items overs whens =
      (λ j. expr.First (names j) (items j) (overs j) (whens j))
      ∙ (sym (over_first keys name item over when (ap (place keys) (sym is) ∙ none) (ap (same_tree own_id) (sym is) ∙ apart)) ∙ ap (over_keys keys) (sym is))

pub ruleset over_by_cases = (
  over_const,
  over_doc,
  over_metaof,
  over_var,
  over_key,
  over_field,
  over_place,
  over_not,
  over_neg,
  over_two,
  over_is,
  over_among,
  over_between,
  over_call,
  over_list,
  over_build,
  over_case,
  over_any,
  over_every,
  over_each,
  over_first,
  over_agg,
)
