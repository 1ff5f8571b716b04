-- Whether an expression that isn't read whole is covered, by its parts: a case for each form.
use Rattle.std.proofs.Common.{◌≡◌, ℕ, Bool, true, false, not, ◌&&◌, List, map, Option, Some, None, refl, sym, ap, ◌∙◌}
use Rattle.std.specs.Option.{option_map}
use Rattle.n1ql_value.specs.declared.fun.Fun.{Fun}
use Rattle.n1ql_value.specs.declared.op.Op.{Op}
use Rattle.n1ql_value.specs.declared.value.Value.{Value}
use Rattle.n1ql_ast.specs.declared.agg.Agg.{Agg}
use Rattle.n1ql_ast.specs.declared.expr.Expr.{Expr, map-Expr, out-Expr, out-roll-Expr, roll-Expr}
use Rattle.n1ql_ast.specs.declared.expr.Expr.TheOpen.{Expr-F}
use Rattle.n1ql_ast.specs.declared.expr.Expr.TheVariants as expr
use Rattle.n1ql_ast.specs.declared.key.Key.{Key}
use Rattle.n1ql_ast.specs.declared.test.Test.{Test}
use Rattle.n1ql_ast.specs.Forms.{all_hold, held_if_any, of_each_part}
use Rattle.n1ql_spans.specs.Covering.{is_covered, is_on_row, plain_keys}
use Rattle.n1ql_spans.specs.inner.ReadWhole.{is_read_whole}
use Rattle.n1ql_spans.proofs.Covered.{covered_top}

by_top : (keys : List Key) (l : Expr-F Expr) (e : Expr) → roll-Expr l ≡ e → is_read_whole keys e ≡ false → is_covered (plain_keys keys) e ≡ (is_on_row l && of_each_part (map-Expr Expr Bool (is_covered (plain_keys keys)) l))
by_top keys l e is h = covered_top keys e l h (ap out-Expr (sym is) ∙ out-roll-Expr l)

pub covered_const : (keys : List Key) (v : Value) → is_read_whole keys (expr.Const v) ≡ false → is_covered (plain_keys keys) (expr.Const v) ≡ true
covered_const keys v h = by_top keys (Expr-F.Const v) (expr.Const v) (expr.rolls-Const v) h

pub covered_doc : (keys : List Key) → is_read_whole keys expr.Doc ≡ false → is_covered (plain_keys keys) expr.Doc ≡ false
covered_doc keys h = by_top keys Expr-F.Doc expr.Doc expr.rolls-Doc h

pub covered_metaof : (keys : List Key) (own : Bool) → is_read_whole keys (expr.MetaOf own) ≡ false → is_covered (plain_keys keys) (expr.MetaOf own) ≡ not own
covered_metaof keys true h = by_top keys (Expr-F.MetaOf true) (expr.MetaOf true) (expr.rolls-MetaOf true) h
covered_metaof keys false h = by_top keys (Expr-F.MetaOf false) (expr.MetaOf false) (expr.rolls-MetaOf false) h

pub covered_var : (keys : List Key) (name : List ℕ) → is_read_whole keys (expr.Var name) ≡ false → is_covered (plain_keys keys) (expr.Var name) ≡ true
covered_var keys name h = by_top keys (Expr-F.Var name) (expr.Var name) (expr.rolls-Var name) h

pub covered_key : (keys : List Key) (at : ℕ) → is_read_whole keys (expr.Key at) ≡ false → is_covered (plain_keys keys) (expr.Key at) ≡ false
covered_key keys at h = by_top keys (Expr-F.Key at) (expr.Key at) (expr.rolls-Key at) h

pub covered_field : (keys : List Key) (x : Expr) (name : List ℕ) → is_read_whole keys (expr.Field x name) ≡ false → is_covered (plain_keys keys) (expr.Field x name) ≡ is_covered (plain_keys keys) x
covered_field keys x name h = by_top keys (Expr-F.Field x name) (expr.Field x name) (expr.rolls-Field x name) h

pub covered_place : (keys : List Key) (x at : Expr) → is_read_whole keys (expr.Place x at) ≡ false → is_covered (plain_keys keys) (expr.Place x at) ≡ (is_covered (plain_keys keys) x && is_covered (plain_keys keys) at)
covered_place keys x at h = by_top keys (Expr-F.Place x at) (expr.Place x at) (expr.rolls-Place x at) h

pub covered_not : (keys : List Key) (x : Expr) → is_read_whole keys (expr.Not x) ≡ false → is_covered (plain_keys keys) (expr.Not x) ≡ is_covered (plain_keys keys) x
covered_not keys x h = by_top keys (Expr-F.Not x) (expr.Not x) (expr.rolls-Not x) h

pub covered_neg : (keys : List Key) (x : Expr) → is_read_whole keys (expr.Neg x) ≡ false → is_covered (plain_keys keys) (expr.Neg x) ≡ is_covered (plain_keys keys) x
covered_neg keys x h = by_top keys (Expr-F.Neg x) (expr.Neg x) (expr.rolls-Neg x) h

pub covered_two : (keys : List Key) (op : Op) (x y : Expr) → is_read_whole keys (expr.Two op x y) ≡ false → is_covered (plain_keys keys) (expr.Two op x y) ≡ (is_covered (plain_keys keys) x && is_covered (plain_keys keys) y)
covered_two keys op x y h = by_top keys (Expr-F.Two op x y) (expr.Two op x y) (expr.rolls-Two op x y) h

pub covered_is : (keys : List Key) (test : Test) (x : Expr) → is_read_whole keys (expr.Is test x) ≡ false → is_covered (plain_keys keys) (expr.Is test x) ≡ is_covered (plain_keys keys) x
covered_is keys test x h = by_top keys (Expr-F.Is test x) (expr.Is test x) (expr.rolls-Is test x) h

pub covered_among : (keys : List Key) (x list : Expr) → is_read_whole keys (expr.Among x list) ≡ false → is_covered (plain_keys keys) (expr.Among x list) ≡ (is_covered (plain_keys keys) x && is_covered (plain_keys keys) list)
covered_among keys x list h = by_top keys (Expr-F.Among x list) (expr.Among x list) (expr.rolls-Among x list) h

pub covered_between : (keys : List Key) (x low high : Expr) → is_read_whole keys (expr.Between x low high) ≡ false → is_covered (plain_keys keys) (expr.Between x low high) ≡ (is_covered (plain_keys keys) x && (is_covered (plain_keys keys) low && is_covered (plain_keys keys) high))
covered_between keys x low high h = by_top keys (Expr-F.Between x low high) (expr.Between x low high) (expr.rolls-Between x low high) h

pub covered_call : (keys : List Key) (fun : Fun) (xs : List Expr) → is_read_whole keys (expr.Call fun xs) ≡ false → is_covered (plain_keys keys) (expr.Call fun xs) ≡ all_hold (map (is_covered (plain_keys keys)) xs)
covered_call keys fun xs h = by_top keys (Expr-F.Call fun xs) (expr.Call fun xs) (expr.rolls-Call fun xs) h

pub covered_list : (keys : List Key) (xs : List Expr) → is_read_whole keys (expr.List xs) ≡ false → is_covered (plain_keys keys) (expr.List xs) ≡ all_hold (map (is_covered (plain_keys keys)) xs)
covered_list keys xs h = by_top keys (Expr-F.List xs) (expr.List xs) (expr.rolls-List xs) h

pub covered_build : (keys : List Key) (names : List (List ℕ)) (xs : List Expr) → is_read_whole keys (expr.Build names xs) ≡ false → is_covered (plain_keys keys) (expr.Build names xs) ≡ all_hold (map (is_covered (plain_keys keys)) xs)
covered_build keys names xs h = by_top keys (Expr-F.Build names xs) (expr.Build names xs) (expr.rolls-Build names xs) h

pub covered_case : (keys : List Key) (whens thens : List Expr) (other : Option Expr) → is_read_whole keys (expr.Case whens thens other) ≡ false → is_covered (plain_keys keys) (expr.Case whens thens other) ≡ (all_hold (map (is_covered (plain_keys keys)) whens) && (all_hold (map (is_covered (plain_keys keys)) thens) && held_if_any (option_map (is_covered (plain_keys keys)) other)))
covered_case keys whens thens None h = by_top keys (Expr-F.Case whens thens None) (expr.Case whens thens None) (expr.rolls-Case whens thens None) h
covered_case keys whens thens (Some other) h = by_top keys (Expr-F.Case whens thens (Some other)) (expr.Case whens thens (Some other)) (expr.rolls-Case whens thens (Some other)) h

pub covered_any : (keys : List Key) (name : List ℕ) (over test : Expr) → is_read_whole keys (expr.Any name over test) ≡ false → is_covered (plain_keys keys) (expr.Any name over test) ≡ (is_covered (plain_keys keys) over && is_covered (plain_keys keys) test)
covered_any keys name over test h = by_top keys (Expr-F.Any name over test) (expr.Any name over test) (expr.rolls-Any name over test) h

pub covered_every : (keys : List Key) (name : List ℕ) (over test : Expr) → is_read_whole keys (expr.Every name over test) ≡ false → is_covered (plain_keys keys) (expr.Every name over test) ≡ (is_covered (plain_keys keys) over && is_covered (plain_keys keys) test)
covered_every keys name over test h = by_top keys (Expr-F.Every name over test) (expr.Every name over test) (expr.rolls-Every name over test) h

pub covered_each : (keys : List Key) (name : List ℕ) (item over : Expr) (when : Option Expr) → is_read_whole keys (expr.Each name item over when) ≡ false → is_covered (plain_keys keys) (expr.Each name item over when) ≡ (is_covered (plain_keys keys) item && (is_covered (plain_keys keys) over && held_if_any (option_map (is_covered (plain_keys keys)) when)))
covered_each keys name item over None h = by_top keys (Expr-F.Each name item over None) (expr.Each name item over None) (expr.rolls-Each name item over None) h
covered_each keys name item over (Some when) h = by_top keys (Expr-F.Each name item over (Some when)) (expr.Each name item over (Some when)) (expr.rolls-Each name item over (Some when)) h

pub covered_first : (keys : List Key) (name : List ℕ) (item over : Expr) (when : Option Expr) → is_read_whole keys (expr.First name item over when) ≡ false → is_covered (plain_keys keys) (expr.First name item over when) ≡ (is_covered (plain_keys keys) item && (is_covered (plain_keys keys) over && held_if_any (option_map (is_covered (plain_keys keys)) when)))
covered_first keys name item over None h = by_top keys (Expr-F.First name item over None) (expr.First name item over None) (expr.rolls-First name item over None) h
covered_first keys name item over (Some when) h = by_top keys (Expr-F.First name item over (Some when)) (expr.First name item over (Some when)) (expr.rolls-First name item over (Some when)) h

pub covered_agg : (keys : List Key) (agg : Agg) (x : Option Expr) → is_read_whole keys (expr.Agg agg x) ≡ false → is_covered (plain_keys keys) (expr.Agg agg x) ≡ held_if_any (option_map (is_covered (plain_keys keys)) x)
covered_agg keys agg None h = by_top keys (Expr-F.Agg agg None) (expr.Agg agg None) (expr.rolls-Agg agg None) h
covered_agg keys agg (Some x) h = by_top keys (Expr-F.Agg agg (Some x)) (expr.Agg agg (Some x)) (expr.rolls-Agg agg (Some x)) h

-- three parts, one after the other
pub both_hold : (r a b c : Bool) → r ≡ (a && (b && c)) → a ≡ true → b ≡ true → r ≡ c
both_hold r a b c is h k = is ∙ rw (h, k) refl

pub second_fails : (r a b c : Bool) → r ≡ (a && (b && c)) → a ≡ true → b ≡ false → r ≡ false
second_fails r a b c is h k = is ∙ rw (h, k) refl

pub first_fails : (r a b c : Bool) → r ≡ (a && (b && c)) → a ≡ false → r ≡ false
first_fails r a b c is h = is ∙ rw h refl

pub ruleset covered_by_cases = (
  covered_const,
  covered_doc,
  covered_metaof,
  covered_var,
  covered_key,
  covered_field,
  covered_place,
  covered_not,
  covered_neg,
  covered_two,
  covered_is,
  covered_among,
  covered_between,
  covered_call,
  covered_list,
  covered_build,
  covered_case,
  covered_any,
  covered_every,
  covered_each,
  covered_first,
  covered_agg,
)
