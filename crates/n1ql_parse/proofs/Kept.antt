-- What the grammar reads is well formed, and holds no aggregate where none may stand.
use Rattle.std.proofs.Common.{◌≡◌, ◌≤◌, ◌==◌, nat_le, MatchOption, ℕ, Bool, true, false, ◌&&◌, ◌||◌, List, [], ◌∷◌, length, map, Option, Some, None, IsTrue, refl, sym, ap, ap₂, subst, ◌∙◌, arith}
use Rattle.std.specs.Prelude.{⊤, if◌then◌else◌}
use Rattle.std.specs.Option.{option_map}
use Rattle.std.specs.Str.{bytes_eq}
use Rattle.std.specs.List.{list_any}
use Rattle.std.proofs.lemmas.List.{length-map}
use Rattle.std.proofs.lemmas.Bool.Decides.{nat_tests}
use Rattle.n1ql_value.specs.declared.fun.Fun.{Fun}
use Rattle.n1ql_value.specs.declared.op.Op.{Op}
use Rattle.n1ql_value.specs.declared.value.Value.{Value}
use Rattle.n1ql_value.specs.Functions.{TakesCount, least_count, most_count}
use Rattle.n1ql_ast.specs.declared.agg.Agg.{Agg}
use Rattle.n1ql_ast.specs.declared.expr.Expr.{Expr, map-Expr, roll-Expr}
use Rattle.n1ql_ast.specs.declared.expr.Expr.TheOpen.{Expr-F}
use Rattle.n1ql_ast.specs.declared.expr.Expr.TheVariants as expr
use Rattle.n1ql_ast.specs.declared.unresolved_expr.UnresolvedExpr.{UnresolvedExpr, fold-roll-UnresolvedExpr}
use Rattle.n1ql_ast.specs.declared.unresolved_expr.UnresolvedExpr.TheOpen.{UnresolvedExpr-F}
use Rattle.n1ql_ast.specs.declared.unresolved_expr.UnresolvedExpr.TheVariants as unresolved
use Rattle.n1ql_ast.specs.declared.scope.Scope.{Scope}
use Rattle.n1ql_ast.specs.declared.test.Test.{Test}
use Rattle.n1ql_ast.specs.Forms.{all_hold, held_if_any, has_its_counts, is_no_aggregate, is_within, of_each_part, takes_count}
use Rattle.n1ql_ast.specs.Names.{inside, level_in, meta_in, resolved}

-- an unresolved expression keeps a condition, whatever its names mean
abbrev pub Keeps : (Expr → Bool) → UnresolvedExpr → Type 0
Keeps good x = (s : Scope) → IsTrue (good (resolved x s))

abbrev pub KeepAll : (Expr → Bool) → List UnresolvedExpr → Type 0
KeepAll good xs = (s : Scope) → IsTrue (all_hold (map good (map (λ x. resolved x s) xs)))

abbrev pub KeepsIfAny : (Expr → Bool) → Option UnresolvedExpr → Type 0
KeepsIfAny good x = (s : Scope) → IsTrue (held_if_any (option_map good (option_map (λ x. resolved x s) x)))

-- The condition, one where aggregates may stand and one where none may, comes from the parts of an expression whose top level has
-- its counts and is no aggregate where none may stand. None may inside an aggregate.
abbrev pub Allows : (Bool → Expr → Bool) → Type 0
Allows good = (agg : Bool) (l : Expr-F Expr) → IsTrue (has_its_counts l) → IsTrue (is_no_aggregate l || agg) →
    IsTrue (of_each_part (map-Expr Expr Bool (good (is_no_aggregate l && agg)) l)) → IsTrue (good agg (roll-Expr l))

pub both : {a b : Bool} → IsTrue a → IsTrue b → IsTrue (a && b)
both {a} {b} p q = ap (λ c. c && b) p ∙ q

maps_once : (g : UnresolvedExpr → Scope → Expr) (s : Scope) (xs : List UnresolvedExpr) → map (λ (f : Scope → Expr). f s) (map g xs) ≡ map (λ x. g x s) xs
maps_once g s [] = refl
maps_once g s (x ∷ xs) = ap (λ es. g x s ∷ es) (maps_once g s xs)

pub keep-none : (good : Expr → Bool) → KeepAll good []
keep-none good s = refl

pub keep-more : (good : Expr → Bool) (x : UnresolvedExpr) (xs : List UnresolvedExpr) → Keeps good x → KeepAll good xs → KeepAll good (x ∷ xs)
keep-more good x xs p q s = both (p s) (q s)

pub keeps-if-none : (good : Expr → Bool) → KeepsIfAny good None
keeps-if-none good s = refl

pub keeps-if-some : (good : Expr → Bool) (x : UnresolvedExpr) → Keeps good x → KeepsIfAny good (Some x)
keeps-if-some good x p s = p s

-- constants, names and META
pub keeps-Const : (good : Bool → Expr → Bool) (agg : Bool) (v : Value) → Allows good → Keeps (good agg) (unresolved.Const v)
keeps-Const good agg v ok s =
    subst (λ e. IsTrue (good agg e)) (sym (ap (λ p. resolved p s) (sym (unresolved.rolls-Const v)) ∙ ap (λ (f : Scope → Expr). f s) (fold-roll-UnresolvedExpr (Scope → Expr) level_in (UnresolvedExpr-F.Const v))))
    (subst (λ e. IsTrue (good agg e)) (expr.rolls-Const v)
    (ok agg (Expr-F.Const v) refl refl refl))

doc-holds : (good : Bool → Expr → Bool) (agg : Bool) → Allows good → IsTrue (good agg expr.Doc)
doc-holds good agg ok = subst (λ e. IsTrue (good agg e)) expr.rolls-Doc (ok agg Expr-F.Doc refl refl refl)

var-holds : (good : Bool → Expr → Bool) (agg : Bool) (name : List ℕ) → Allows good → IsTrue (good agg (expr.Var name))
var-holds good agg name ok = subst (λ e. IsTrue (good agg e)) (expr.rolls-Var name) (ok agg (Expr-F.Var name) refl refl refl)

pub field-holds : (good : Bool → Expr → Bool) (agg : Bool) (e : Expr) (name : List ℕ) → Allows good → IsTrue (good agg e) →
    IsTrue (good agg (expr.Field e name))
field-holds good agg e name ok p = subst (λ e. IsTrue (good agg e)) (expr.rolls-Field e name) (ok agg (Expr-F.Field e name) refl refl p)

pub meta-holds : (good : Bool → Expr → Bool) (agg own : Bool) → Allows good → IsTrue (good agg (expr.MetaOf own))
meta-holds good agg own ok = subst (λ e. IsTrue (good agg e)) (expr.rolls-MetaOf own) (ok agg (Expr-F.MetaOf own) refl refl refl)

-- whichever of two expressions it is
either-holds : (good : Expr → Bool) (b : Bool) (e f : Expr) → IsTrue (good e) → IsTrue (good f) → IsTrue (good (if b then e else f))
either-holds good true e f p q = p
either-holds good false e f p q = q

pub keeps-Name : (good : Bool → Expr → Bool) (agg : Bool) (name : List ℕ) → Allows good → Keeps (good agg) (unresolved.Name name)
keeps-Name good agg name ok s =
    subst (λ e. IsTrue (good agg e)) (sym (ap (λ p. resolved p s) (sym (unresolved.rolls-Name name)) ∙ ap (λ (f : Scope → Expr). f s) (fold-roll-UnresolvedExpr (Scope → Expr) level_in (UnresolvedExpr-F.Name name))))
    (either-holds (good agg) (list_any (bytes_eq name) s.bound) (expr.Var name) (if bytes_eq name s.alias then expr.Doc else expr.Field expr.Doc name)
    (var-holds good agg name ok)
    (either-holds (good agg) (bytes_eq name s.alias) expr.Doc (expr.Field expr.Doc name) (doc-holds good agg ok)
    (field-holds good agg expr.Doc name ok (doc-holds good agg ok))))

meta_in-holds : (good : Bool → Expr → Bool) (agg : Bool) (s : Scope) (name : Option (List ℕ)) → Allows good → IsTrue (good agg (meta_in s name))
meta_in-holds good agg s None ok = meta-holds good agg true ok
meta_in-holds good agg s (Some name) ok = meta-holds good agg (bytes_eq name s.alias) ok

pub keeps-Meta : (good : Bool → Expr → Bool) (agg : Bool) (name : Option (List ℕ)) → Allows good → Keeps (good agg) (unresolved.Meta name)
keeps-Meta good agg name ok s =
    subst (λ e. IsTrue (good agg e)) (sym (ap (λ p. resolved p s) (sym (unresolved.rolls-Meta name)) ∙ ap (λ (f : Scope → Expr). f s) (fold-roll-UnresolvedExpr (Scope → Expr) level_in (UnresolvedExpr-F.Meta name))))
    (meta_in-holds good agg s name ok)

-- what is made of parts
pub keeps-Field : (good : Bool → Expr → Bool) (agg : Bool) (x : UnresolvedExpr) (name : List ℕ) → Allows good → Keeps (good agg) x → Keeps (good agg) (unresolved.Field x name)
keeps-Field good agg x name ok hx s =
    subst (λ e. IsTrue (good agg e)) (sym (ap (λ p. resolved p s) (sym (unresolved.rolls-Field x name)) ∙ ap (λ (f : Scope → Expr). f s) (fold-roll-UnresolvedExpr (Scope → Expr) level_in (UnresolvedExpr-F.Field x name))))
    (subst (λ e. IsTrue (good agg e)) (expr.rolls-Field (resolved x s) name)
    (ok agg (Expr-F.Field (resolved x s) name) refl refl (hx s)))

pub keeps-Place : (good : Bool → Expr → Bool) (agg : Bool) (x : UnresolvedExpr) (y : UnresolvedExpr) → Allows good → Keeps (good agg) x → Keeps (good agg) y → Keeps (good agg) (unresolved.Place x y)
keeps-Place good agg x y ok hx hy s =
    subst (λ e. IsTrue (good agg e)) (sym (ap (λ p. resolved p s) (sym (unresolved.rolls-Place x y)) ∙ ap (λ (f : Scope → Expr). f s) (fold-roll-UnresolvedExpr (Scope → Expr) level_in (UnresolvedExpr-F.Place x y))))
    (subst (λ e. IsTrue (good agg e)) (expr.rolls-Place (resolved x s) (resolved y s))
    (ok agg (Expr-F.Place (resolved x s) (resolved y s)) refl refl (both (hx s) (hy s))))

pub keeps-Not : (good : Bool → Expr → Bool) (agg : Bool) (x : UnresolvedExpr) → Allows good → Keeps (good agg) x → Keeps (good agg) (unresolved.Not x)
keeps-Not good agg x ok hx s =
    subst (λ e. IsTrue (good agg e)) (sym (ap (λ p. resolved p s) (sym (unresolved.rolls-Not x)) ∙ ap (λ (f : Scope → Expr). f s) (fold-roll-UnresolvedExpr (Scope → Expr) level_in (UnresolvedExpr-F.Not x))))
    (subst (λ e. IsTrue (good agg e)) (expr.rolls-Not (resolved x s))
    (ok agg (Expr-F.Not (resolved x s)) refl refl (hx s)))

pub keeps-Neg : (good : Bool → Expr → Bool) (agg : Bool) (x : UnresolvedExpr) → Allows good → Keeps (good agg) x → Keeps (good agg) (unresolved.Neg x)
keeps-Neg good agg x ok hx s =
    subst (λ e. IsTrue (good agg e)) (sym (ap (λ p. resolved p s) (sym (unresolved.rolls-Neg x)) ∙ ap (λ (f : Scope → Expr). f s) (fold-roll-UnresolvedExpr (Scope → Expr) level_in (UnresolvedExpr-F.Neg x))))
    (subst (λ e. IsTrue (good agg e)) (expr.rolls-Neg (resolved x s))
    (ok agg (Expr-F.Neg (resolved x s)) refl refl (hx s)))

pub keeps-Two : (good : Bool → Expr → Bool) (agg : Bool) (o : Op) (x : UnresolvedExpr) (y : UnresolvedExpr) → Allows good → Keeps (good agg) x → Keeps (good agg) y → Keeps (good agg) (unresolved.Two o x y)
keeps-Two good agg o x y ok hx hy s =
    subst (λ e. IsTrue (good agg e)) (sym (ap (λ p. resolved p s) (sym (unresolved.rolls-Two o x y)) ∙ ap (λ (f : Scope → Expr). f s) (fold-roll-UnresolvedExpr (Scope → Expr) level_in (UnresolvedExpr-F.Two o x y))))
    (subst (λ e. IsTrue (good agg e)) (expr.rolls-Two o (resolved x s) (resolved y s))
    (ok agg (Expr-F.Two o (resolved x s) (resolved y s)) refl refl (both (hx s) (hy s))))

pub keeps-Is : (good : Bool → Expr → Bool) (agg : Bool) (test : Test) (x : UnresolvedExpr) → Allows good → Keeps (good agg) x → Keeps (good agg) (unresolved.Is test x)
keeps-Is good agg test x ok hx s =
    subst (λ e. IsTrue (good agg e)) (sym (ap (λ p. resolved p s) (sym (unresolved.rolls-Is test x)) ∙ ap (λ (f : Scope → Expr). f s) (fold-roll-UnresolvedExpr (Scope → Expr) level_in (UnresolvedExpr-F.Is test x))))
    (subst (λ e. IsTrue (good agg e)) (expr.rolls-Is test (resolved x s))
    (ok agg (Expr-F.Is test (resolved x s)) refl refl (hx s)))

pub keeps-Among : (good : Bool → Expr → Bool) (agg : Bool) (x : UnresolvedExpr) (y : UnresolvedExpr) → Allows good → Keeps (good agg) x → Keeps (good agg) y → Keeps (good agg) (unresolved.Among x y)
keeps-Among good agg x y ok hx hy s =
    subst (λ e. IsTrue (good agg e)) (sym (ap (λ p. resolved p s) (sym (unresolved.rolls-Among x y)) ∙ ap (λ (f : Scope → Expr). f s) (fold-roll-UnresolvedExpr (Scope → Expr) level_in (UnresolvedExpr-F.Among x y))))
    (subst (λ e. IsTrue (good agg e)) (expr.rolls-Among (resolved x s) (resolved y s))
    (ok agg (Expr-F.Among (resolved x s) (resolved y s)) refl refl (both (hx s) (hy s))))

pub keeps-Between : (good : Bool → Expr → Bool) (agg : Bool) (x : UnresolvedExpr) (low : UnresolvedExpr) (high : UnresolvedExpr) → Allows good → Keeps (good agg) x → Keeps (good agg) low → Keeps (good agg) high → Keeps (good agg) (unresolved.Between x low high)
keeps-Between good agg x low high ok hx hlow hhigh s =
    subst (λ e. IsTrue (good agg e)) (sym (ap (λ p. resolved p s) (sym (unresolved.rolls-Between x low high)) ∙ ap (λ (f : Scope → Expr). f s) (fold-roll-UnresolvedExpr (Scope → Expr) level_in (UnresolvedExpr-F.Between x low high))))
    (subst (λ e. IsTrue (good agg e)) (expr.rolls-Between (resolved x s) (resolved low s) (resolved high s))
    (ok agg (Expr-F.Between (resolved x s) (resolved low s) (resolved high s)) refl refl (both (hx s) (both (hlow s) (hhigh s)))))

pub keeps-Any : (good : Bool → Expr → Bool) (agg : Bool) (name : List ℕ) (over : UnresolvedExpr) (test : UnresolvedExpr) → Allows good → Keeps (good agg) over → Keeps (good agg) test → Keeps (good agg) (unresolved.Any name over test)
keeps-Any good agg name over test ok hover htest s =
    subst (λ e. IsTrue (good agg e)) (sym (ap (λ p. resolved p s) (sym (unresolved.rolls-Any name over test)) ∙ ap (λ (f : Scope → Expr). f s) (fold-roll-UnresolvedExpr (Scope → Expr) level_in (UnresolvedExpr-F.Any name over test))))
    (subst (λ e. IsTrue (good agg e)) (expr.rolls-Any name (resolved over s) (resolved test (inside name s)))
    (ok agg (Expr-F.Any name (resolved over s) (resolved test (inside name s))) refl refl (both (hover s) (htest (inside name s)))))

pub keeps-Every : (good : Bool → Expr → Bool) (agg : Bool) (name : List ℕ) (over : UnresolvedExpr) (test : UnresolvedExpr) → Allows good → Keeps (good agg) over → Keeps (good agg) test → Keeps (good agg) (unresolved.Every name over test)
keeps-Every good agg name over test ok hover htest s =
    subst (λ e. IsTrue (good agg e)) (sym (ap (λ p. resolved p s) (sym (unresolved.rolls-Every name over test)) ∙ ap (λ (f : Scope → Expr). f s) (fold-roll-UnresolvedExpr (Scope → Expr) level_in (UnresolvedExpr-F.Every name over test))))
    (subst (λ e. IsTrue (good agg e)) (expr.rolls-Every name (resolved over s) (resolved test (inside name s)))
    (ok agg (Expr-F.Every name (resolved over s) (resolved test (inside name s))) refl refl (both (hover s) (htest (inside name s)))))

pub keeps-Each : (good : Bool → Expr → Bool) (agg : Bool) (name : List ℕ) (item : UnresolvedExpr) (over : UnresolvedExpr) (when : Option UnresolvedExpr) → Allows good → Keeps (good agg) item → Keeps (good agg) over → KeepsIfAny (good agg) when → Keeps (good agg) (unresolved.Each name item over when)
keeps-Each good agg name item over None ok hitem hover hwhen s =
    subst (λ e. IsTrue (good agg e)) (sym (ap (λ p. resolved p s) (sym (unresolved.rolls-Each name item over None)) ∙ ap (λ (f : Scope → Expr). f s) (fold-roll-UnresolvedExpr (Scope → Expr) level_in (UnresolvedExpr-F.Each name item over None))))
    (subst (λ e. IsTrue (good agg e)) (expr.rolls-Each name (resolved item (inside name s)) (resolved over s) None)
    (ok agg (Expr-F.Each name (resolved item (inside name s)) (resolved over s) None) refl refl (both (hitem (inside name s)) (both (hover s) (hwhen (inside name s))))))
keeps-Each good agg name item over (Some when) ok hitem hover hwhen s =
    subst (λ e. IsTrue (good agg e)) (sym (ap (λ p. resolved p s) (sym (unresolved.rolls-Each name item over (Some when))) ∙ ap (λ (f : Scope → Expr). f s) (fold-roll-UnresolvedExpr (Scope → Expr) level_in (UnresolvedExpr-F.Each name item over (Some when)))))
    (subst (λ e. IsTrue (good agg e)) (expr.rolls-Each name (resolved item (inside name s)) (resolved over s) (Some (resolved when (inside name s))))
    (ok agg (Expr-F.Each name (resolved item (inside name s)) (resolved over s) (Some (resolved when (inside name s)))) refl refl (both (hitem (inside name s)) (both (hover s) (hwhen (inside name s))))))

pub keeps-First : (good : Bool → Expr → Bool) (agg : Bool) (name : List ℕ) (item : UnresolvedExpr) (over : UnresolvedExpr) (when : Option UnresolvedExpr) → Allows good → Keeps (good agg) item → Keeps (good agg) over → KeepsIfAny (good agg) when → Keeps (good agg) (unresolved.First name item over when)
keeps-First good agg name item over None ok hitem hover hwhen s =
    subst (λ e. IsTrue (good agg e)) (sym (ap (λ p. resolved p s) (sym (unresolved.rolls-First name item over None)) ∙ ap (λ (f : Scope → Expr). f s) (fold-roll-UnresolvedExpr (Scope → Expr) level_in (UnresolvedExpr-F.First name item over None))))
    (subst (λ e. IsTrue (good agg e)) (expr.rolls-First name (resolved item (inside name s)) (resolved over s) None)
    (ok agg (Expr-F.First name (resolved item (inside name s)) (resolved over s) None) refl refl (both (hitem (inside name s)) (both (hover s) (hwhen (inside name s))))))
keeps-First good agg name item over (Some when) ok hitem hover hwhen s =
    subst (λ e. IsTrue (good agg e)) (sym (ap (λ p. resolved p s) (sym (unresolved.rolls-First name item over (Some when))) ∙ ap (λ (f : Scope → Expr). f s) (fold-roll-UnresolvedExpr (Scope → Expr) level_in (UnresolvedExpr-F.First name item over (Some when)))))
    (subst (λ e. IsTrue (good agg e)) (expr.rolls-First name (resolved item (inside name s)) (resolved over s) (Some (resolved when (inside name s))))
    (ok agg (Expr-F.First name (resolved item (inside name s)) (resolved over s) (Some (resolved when (inside name s)))) refl refl (both (hitem (inside name s)) (both (hover s) (hwhen (inside name s))))))

-- what holds lists
counted : (s : Scope) (xs : List UnresolvedExpr) → length (map (λ x. resolved x s) xs) ≡ length xs
counted s xs = length-map xs (λ x. resolved x s)

within-holds : (most : Option ℕ) (n : ℕ) → MatchOption most ⊤ (λ m. n ≤ m) → IsTrue (is_within most n)
within-holds None n h = refl
within-holds (Some m) n h = grind (arith, nat_tests)

least-holds : (m n : ℕ) → m ≤ n → IsTrue (nat_le m n)
least-holds m n h = grind (arith, nat_tests)

takes-holds : (fun : Fun) (n : ℕ) → TakesCount fun n → IsTrue (takes_count fun n)
takes-holds fun n h = both (least-holds (least_count fun) n h.0) (within-holds (most_count fun) n h.1)

equal-holds : (m n : ℕ) → m ≡ n → IsTrue (m == n)
equal-holds m n h = grind (arith, nat_tests)

pub keeps-Call : (good : Bool → Expr → Bool) (agg : Bool) (fun : Fun) (xs : List UnresolvedExpr) → Allows good → TakesCount fun (length xs) →
    KeepAll (good agg) xs → Keeps (good agg) (unresolved.Call fun xs)
keeps-Call good agg fun xs ok count hxs s =
    let es = map (λ x. resolved x s) xs in
    subst (λ e. IsTrue (good agg e)) (sym (ap (λ p. resolved p s) (sym (unresolved.rolls-Call fun xs)) ∙ (ap (λ (f : Scope → Expr). f s) (fold-roll-UnresolvedExpr (Scope → Expr) level_in (UnresolvedExpr-F.Call fun xs)) ∙ ap (expr.Call fun) (maps_once resolved s xs))))
    (subst (λ e. IsTrue (good agg e)) (expr.rolls-Call fun es)
    (ok agg (Expr-F.Call fun es)
    (takes-holds fun (length es) (subst (TakesCount fun) (sym (counted s xs)) count)) refl (hxs s)))

pub keeps-List : (good : Bool → Expr → Bool) (agg : Bool) (xs : List UnresolvedExpr) → Allows good → KeepAll (good agg) xs → Keeps (good agg) (unresolved.List xs)
keeps-List good agg xs ok hxs s =
    let es = map (λ x. resolved x s) xs in
    subst (λ e. IsTrue (good agg e)) (sym (ap (λ p. resolved p s) (sym (unresolved.rolls-List xs)) ∙ (ap (λ (f : Scope → Expr). f s) (fold-roll-UnresolvedExpr (Scope → Expr) level_in (UnresolvedExpr-F.List xs)) ∙ ap expr.List (maps_once resolved s xs))))
    (subst (λ e. IsTrue (good agg e)) (expr.rolls-List es)
    (ok agg (Expr-F.List es) refl refl (hxs s)))

pub keeps-Build : (good : Bool → Expr → Bool) (agg : Bool) (names : List (List ℕ)) (xs : List UnresolvedExpr) → Allows good → length names ≡ length xs →
    KeepAll (good agg) xs → Keeps (good agg) (unresolved.Build names xs)
keeps-Build good agg names xs ok count hxs s =
    let es = map (λ x. resolved x s) xs in
    subst (λ e. IsTrue (good agg e)) (sym (ap (λ p. resolved p s) (sym (unresolved.rolls-Build names xs)) ∙ (ap (λ (f : Scope → Expr). f s) (fold-roll-UnresolvedExpr (Scope → Expr) level_in (UnresolvedExpr-F.Build names xs)) ∙ ap (expr.Build names) (maps_once resolved s xs))))
    (subst (λ e. IsTrue (good agg e)) (expr.rolls-Build names es)
    (ok agg (Expr-F.Build names es)
    (equal-holds (length names) (length es) (count ∙ sym (counted s xs))) refl (hxs s)))

pub keeps-Case : (good : Bool → Expr → Bool) (agg : Bool) (whens thens : List UnresolvedExpr) (other : Option UnresolvedExpr) → Allows good →
    length whens ≡ length thens → KeepAll (good agg) whens → KeepAll (good agg) thens → KeepsIfAny (good agg) other → Keeps (good agg) (unresolved.Case whens thens other)
keeps-Case good agg whens thens None ok count hw ht ho s =
    let ws = map (λ x. resolved x s) whens in
    let ts = map (λ x. resolved x s) thens in
    subst (λ e. IsTrue (good agg e))
    (sym (ap (λ p. resolved p s) (sym (unresolved.rolls-Case whens thens None)) ∙ (ap (λ (f : Scope → Expr). f s) (fold-roll-UnresolvedExpr (Scope → Expr) level_in (UnresolvedExpr-F.Case whens thens None))
    ∙ ap₂ (λ a b. expr.Case a b None) (maps_once resolved s whens) (maps_once resolved s thens))))
    (subst (λ e. IsTrue (good agg e)) (expr.rolls-Case ws ts None)
    (ok agg (Expr-F.Case ws ts None)
    (equal-holds (length ws) (length ts) (counted s whens ∙ (count ∙ sym (counted s thens)))) refl
    (both (hw s) (both (ht s) (ho s)))))
keeps-Case good agg whens thens (Some x) ok count hw ht ho s =
    let ws = map (λ x. resolved x s) whens in
    let ts = map (λ x. resolved x s) thens in
    subst (λ e. IsTrue (good agg e))
    (sym (ap (λ p. resolved p s) (sym (unresolved.rolls-Case whens thens (Some x))) ∙ (ap (λ (f : Scope → Expr). f s) (fold-roll-UnresolvedExpr (Scope → Expr) level_in (UnresolvedExpr-F.Case whens thens (Some x)))
    ∙ ap₂ (λ a b. expr.Case a b (Some (resolved x s))) (maps_once resolved s whens) (maps_once resolved s thens))))
    (subst (λ e. IsTrue (good agg e)) (expr.rolls-Case ws ts (Some (resolved x s)))
    (ok agg (Expr-F.Case ws ts (Some (resolved x s)))
    (equal-holds (length ws) (length ts) (counted s whens ∙ (count ∙ sym (counted s thens)))) refl
    (both (hw s) (both (ht s) (ho s)))))

-- an aggregate stands only where it may
pub keeps-Agg : (good : Bool → Expr → Bool) (a : Agg) (x : Option UnresolvedExpr) → Allows good → KeepsIfAny (good false) x → Keeps (good true) (unresolved.Agg a x)
keeps-Agg good a None ok hx s =
    subst (λ e. IsTrue (good true e)) (sym (ap (λ p. resolved p s) (sym (unresolved.rolls-Agg a None)) ∙ ap (λ (f : Scope → Expr). f s) (fold-roll-UnresolvedExpr (Scope → Expr) level_in (UnresolvedExpr-F.Agg a None))))
    (subst (λ e. IsTrue (good true e)) (expr.rolls-Agg a None)
    (ok true (Expr-F.Agg a None) refl refl (hx s)))
keeps-Agg good a (Some x) ok hx s =
    subst (λ e. IsTrue (good true e)) (sym (ap (λ p. resolved p s) (sym (unresolved.rolls-Agg a (Some x))) ∙ ap (λ (f : Scope → Expr). f s) (fold-roll-UnresolvedExpr (Scope → Expr) level_in (UnresolvedExpr-F.Agg a (Some x)))))
    (subst (λ e. IsTrue (good true e)) (expr.rolls-Agg a (Some (resolved x s)))
    (ok true (Expr-F.Agg a (Some (resolved x s))) refl refl (hx s)))
