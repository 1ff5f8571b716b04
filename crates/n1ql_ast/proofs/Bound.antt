-- Each variable of what an unresolved expression is in a scope is bound in the scope, or inside the expression.
use Rattle.std.proofs.Common.{◌≡◌, ℕ, Bool, true, false, ◌&&◌, ◌||◌, List, [], ◌∷◌, ◌++◌, map, Some, None, IsTrue, refl, sym, ap, subst}
use Rattle.std.specs.Prelude.{bytes_eq, if◌then◌else◌}
use Rattle.std.specs.List.{list_any}
use Rattle.n1ql_ast.specs.declared.expr.Expr.{Expr, fold-roll-Expr, map-Expr, roll-Expr}
use Rattle.n1ql_ast.specs.declared.expr.Expr.TheOpen.{Expr-F}
use Rattle.n1ql_ast.specs.declared.expr.Expr.TheVariants as expr
use Rattle.n1ql_ast.specs.declared.unresolved_expr.UnresolvedExpr.{UnresolvedExpr, fold-roll-UnresolvedExpr, ind-UnresolvedExpr, map-UnresolvedExpr, roll-UnresolvedExpr}
use Rattle.n1ql_ast.specs.declared.unresolved_expr.UnresolvedExpr.TheOpen.{UnresolvedExpr-F}
use Rattle.n1ql_ast.specs.declared.scope.Scope.{Scope}
use Rattle.n1ql_ast.specs.Bindings.{in_scope, is_bound, is_closed_in, with_name}
use Rattle.n1ql_ast.specs.Forms.{all_hold, of_each_part}
use Rattle.n1ql_ast.specs.Names.{inside, level_in, resolved}

abbrev Names : Type 0
Names = List (List ℕ)

-- all names that the scope binds are among these
abbrev Binds : Names → Scope → Type 0
Binds names s = (n : List ℕ) → IsTrue (list_any (bytes_eq n) s.bound) → IsTrue (list_any (bytes_eq n) names)

and : (a b : Bool) → IsTrue a → IsTrue b → IsTrue (a && b)
and true b h k = k
and false b h k = h

some_left : (a b : Bool) → IsTrue a → IsTrue (a || b)
some_left true b h = refl
some_left false b h = absurd cc

some_right : (a b : Bool) → IsTrue b → IsTrue (a || b)
some_right true b h = refl
some_right false b h = h

at_end : (n m : List ℕ) (bound names : Names) → (IsTrue (list_any (bytes_eq n) bound) → IsTrue (list_any (bytes_eq n) names))
    → IsTrue (list_any (bytes_eq n) (bound ++ m ∷ [])) → IsTrue (bytes_eq n m || list_any (bytes_eq n) names)
at_end n m [] names h k =
    (elim (bytes_eq n m) as (λ b. IsTrue (b || false) → IsTrue (b || list_any (bytes_eq n) names)) [ true ↦ λ is. refl | false ↦ λ is. absurd cc ]) k
at_end n m (b ∷ bound) names h k =
    (elim (bytes_eq n b) as (λ t. (IsTrue (t || list_any (bytes_eq n) bound) → IsTrue (list_any (bytes_eq n) names))
    → IsTrue (t || list_any (bytes_eq n) (bound ++ m ∷ [])) → IsTrue (bytes_eq n m || list_any (bytes_eq n) names)) [
      | true ↦ λ g is. some_right (bytes_eq n m) (list_any (bytes_eq n) names) (g refl)
      | false ↦ λ g is. at_end n m bound names g is
    ]) h k

binds_inside : (names : Names) (s : Scope) (m : List ℕ) → Binds names s → Binds (with_name m names) (inside m s)
binds_inside names s m h n k = at_end n m s.bound names (h n) k

-- what is closed in whatever names a scope binds
abbrev Closed : (Scope → Expr) → Type 0
Closed e = (names : Names) (s : Scope) → Binds names s → IsTrue (is_closed_in (e s) names)

abbrev Known : Type 0
Known = (x : UnresolvedExpr) × Closed (resolved x)

abbrev top : UnresolvedExpr-F Known → UnresolvedExpr-F UnresolvedExpr
top y = map-UnresolvedExpr Known UnresolvedExpr (λ k. k.0) y

-- a level by itself is bound whatever its parts are
bound_mapped : (l : Expr-F Expr) (names : Names) → IsTrue (is_bound l names) → IsTrue (is_bound (map-Expr Expr (Names → Bool) is_closed_in l) names)
bound_mapped (Expr-F.Var name) names h = h
bound_mapped _ names h = refl

-- an expression from its level and its parts
rolled : (l : Expr-F Expr) (names : Names) (e : Expr) → roll-Expr l ≡ e → IsTrue (is_bound l names)
    → IsTrue (of_each_part (in_scope with_name (map-Expr Expr (Names → Bool) is_closed_in l) names)) → IsTrue (is_closed_in e names)
rolled l names e is level parts =
    let whole : is_closed_in (roll-Expr l) names ≡ (is_bound (map-Expr Expr (Names → Bool) is_closed_in l) names && of_each_part (in_scope with_name (map-Expr Expr (Names → Bool) is_closed_in l) names)) =
    ap (λ (f : Names → Bool). f names) (fold-roll-Expr (Names → Bool) (λ l s. is_bound l s && of_each_part (in_scope with_name l s)) l) in
    subst (λ e. IsTrue (is_closed_in e names)) is (subst IsTrue (sym whole) (and _ _ (bound_mapped l names level) parts))

name_closed : (name : List ℕ) (names : Names) (s : Scope) → Binds names s → (b c : Bool) → b ≡ list_any (bytes_eq name) s.bound
    → IsTrue (is_closed_in (if b then expr.Var name else (if c then expr.Doc else expr.Field expr.Doc name)) names)
name_closed name names s h true c is = rolled (Expr-F.Var name) names (expr.Var name) (expr.rolls-Var name) (h name (sym is)) refl
name_closed name names s h false true is = rolled Expr-F.Doc names expr.Doc expr.rolls-Doc refl refl
name_closed name names s h false false is =
    rolled (Expr-F.Field expr.Doc name) names (expr.Field expr.Doc name) (expr.rolls-Field expr.Doc name) refl
    (rolled Expr-F.Doc names expr.Doc expr.rolls-Doc refl refl)

all_closed : (xs : List Known) (names : Names) (s : Scope) → Binds names s
    → IsTrue (all_hold (map (λ (f : Names → Bool). f names) (map is_closed_in (map (λ (x : Scope → Expr). x s) (map resolved (map (λ (k : Known). k.0) xs))))))
all_closed [] names s h = refl
all_closed (x ∷ xs) names s h = and _ _ (x.1 names s h) (all_closed xs names s h)

-- one level in a scope, whose parts are known
level_closed : (y : UnresolvedExpr-F Known) (names : Names) (s : Scope) → Binds names s → IsTrue (is_closed_in (level_in (map-UnresolvedExpr UnresolvedExpr (Scope → Expr) resolved (top y)) s) names)
level_closed (UnresolvedExpr-F.Const v) names s h =
    rolled (Expr-F.Const v) names (expr.Const v) (expr.rolls-Const v) refl
    (refl)
level_closed (UnresolvedExpr-F.Name name) names s h = name_closed name names s h (list_any (bytes_eq name) s.bound) (bytes_eq name s.alias) refl
level_closed (UnresolvedExpr-F.Meta None) names s h = rolled (Expr-F.MetaOf true) names (expr.MetaOf true) (expr.rolls-MetaOf true) refl refl
level_closed (UnresolvedExpr-F.Meta (Some name)) names s h =
    rolled (Expr-F.MetaOf (bytes_eq name s.alias)) names (expr.MetaOf (bytes_eq name s.alias)) (expr.rolls-MetaOf (bytes_eq name s.alias)) refl refl
level_closed (UnresolvedExpr-F.Field x name) names s h =
    rolled (Expr-F.Field (resolved x.0 s) name) names (expr.Field (resolved x.0 s) name) (expr.rolls-Field (resolved x.0 s) name) refl
    (x.1 names s h)
level_closed (UnresolvedExpr-F.Place x at) names s h =
    rolled (Expr-F.Place (resolved x.0 s) (resolved at.0 s)) names (expr.Place (resolved x.0 s) (resolved at.0 s)) (expr.rolls-Place (resolved x.0 s) (resolved at.0 s)) refl
    (and _ _ (x.1 names s h) (at.1 names s h))
level_closed (UnresolvedExpr-F.Not x) names s h =
    rolled (Expr-F.Not (resolved x.0 s)) names (expr.Not (resolved x.0 s)) (expr.rolls-Not (resolved x.0 s)) refl
    (x.1 names s h)
level_closed (UnresolvedExpr-F.Neg x) names s h =
    rolled (Expr-F.Neg (resolved x.0 s)) names (expr.Neg (resolved x.0 s)) (expr.rolls-Neg (resolved x.0 s)) refl
    (x.1 names s h)
level_closed (UnresolvedExpr-F.Two op x y) names s h =
    rolled (Expr-F.Two op (resolved x.0 s) (resolved y.0 s)) names (expr.Two op (resolved x.0 s) (resolved y.0 s)) (expr.rolls-Two op (resolved x.0 s) (resolved y.0 s)) refl
    (and _ _ (x.1 names s h) (y.1 names s h))
level_closed (UnresolvedExpr-F.Is test x) names s h =
    rolled (Expr-F.Is test (resolved x.0 s)) names (expr.Is test (resolved x.0 s)) (expr.rolls-Is test (resolved x.0 s)) refl
    (x.1 names s h)
level_closed (UnresolvedExpr-F.Among x y) names s h =
    rolled (Expr-F.Among (resolved x.0 s) (resolved y.0 s)) names (expr.Among (resolved x.0 s) (resolved y.0 s)) (expr.rolls-Among (resolved x.0 s) (resolved y.0 s)) refl
    (and _ _ (x.1 names s h) (y.1 names s h))
level_closed (UnresolvedExpr-F.Between x low high) names s h =
    rolled (Expr-F.Between (resolved x.0 s) (resolved low.0 s) (resolved high.0 s)) names (expr.Between (resolved x.0 s) (resolved low.0 s) (resolved high.0 s)) (expr.rolls-Between (resolved x.0 s) (resolved low.0 s) (resolved high.0 s)) refl
    (and _ _ (x.1 names s h) (and _ _ (low.1 names s h) (high.1 names s h)))
level_closed (UnresolvedExpr-F.Call fun xs) names s h =
    rolled (Expr-F.Call fun (map (λ (f : Scope → Expr). f s) (map resolved (map (λ (k : Known). k.0) xs)))) names (expr.Call fun (map (λ (f : Scope → Expr). f s) (map resolved (map (λ (k : Known). k.0) xs)))) (expr.rolls-Call fun (map (λ (f : Scope → Expr). f s) (map resolved (map (λ (k : Known). k.0) xs)))) refl
    (all_closed xs names s h)
level_closed (UnresolvedExpr-F.List xs) names s h =
    rolled (Expr-F.List (map (λ (f : Scope → Expr). f s) (map resolved (map (λ (k : Known). k.0) xs)))) names (expr.List (map (λ (f : Scope → Expr). f s) (map resolved (map (λ (k : Known). k.0) xs)))) (expr.rolls-List (map (λ (f : Scope → Expr). f s) (map resolved (map (λ (k : Known). k.0) xs)))) refl
    (all_closed xs names s h)
level_closed (UnresolvedExpr-F.Build ns xs) names s h =
    rolled (Expr-F.Build ns (map (λ (f : Scope → Expr). f s) (map resolved (map (λ (k : Known). k.0) xs)))) names (expr.Build ns (map (λ (f : Scope → Expr). f s) (map resolved (map (λ (k : Known). k.0) xs)))) (expr.rolls-Build ns (map (λ (f : Scope → Expr). f s) (map resolved (map (λ (k : Known). k.0) xs)))) refl
    (all_closed xs names s h)
level_closed (UnresolvedExpr-F.Case whens thens None) names s h =
    rolled (Expr-F.Case (map (λ (f : Scope → Expr). f s) (map resolved (map (λ (k : Known). k.0) whens))) (map (λ (f : Scope → Expr). f s) (map resolved (map (λ (k : Known). k.0) thens))) None) names (expr.Case (map (λ (f : Scope → Expr). f s) (map resolved (map (λ (k : Known). k.0) whens))) (map (λ (f : Scope → Expr). f s) (map resolved (map (λ (k : Known). k.0) thens))) None) (expr.rolls-Case (map (λ (f : Scope → Expr). f s) (map resolved (map (λ (k : Known). k.0) whens))) (map (λ (f : Scope → Expr). f s) (map resolved (map (λ (k : Known). k.0) thens))) None) refl
    (and _ _ (all_closed whens names s h) (and _ _ (all_closed thens names s h) (refl)))
level_closed (UnresolvedExpr-F.Case whens thens (Some other)) names s h =
    rolled (Expr-F.Case (map (λ (f : Scope → Expr). f s) (map resolved (map (λ (k : Known). k.0) whens))) (map (λ (f : Scope → Expr). f s) (map resolved (map (λ (k : Known). k.0) thens))) (Some (resolved other.0 s))) names (expr.Case (map (λ (f : Scope → Expr). f s) (map resolved (map (λ (k : Known). k.0) whens))) (map (λ (f : Scope → Expr). f s) (map resolved (map (λ (k : Known). k.0) thens))) (Some (resolved other.0 s))) (expr.rolls-Case (map (λ (f : Scope → Expr). f s) (map resolved (map (λ (k : Known). k.0) whens))) (map (λ (f : Scope → Expr). f s) (map resolved (map (λ (k : Known). k.0) thens))) (Some (resolved other.0 s))) refl
    (and _ _ (all_closed whens names s h) (and _ _ (all_closed thens names s h) (other.1 names s h)))
level_closed (UnresolvedExpr-F.Any name over test) names s h =
    rolled (Expr-F.Any name (resolved over.0 s) (resolved test.0 (inside name s))) names (expr.Any name (resolved over.0 s) (resolved test.0 (inside name s))) (expr.rolls-Any name (resolved over.0 s) (resolved test.0 (inside name s))) refl
    (and _ _ (over.1 names s h) (test.1 (with_name name names) (inside name s) (binds_inside names s name h)))
level_closed (UnresolvedExpr-F.Every name over test) names s h =
    rolled (Expr-F.Every name (resolved over.0 s) (resolved test.0 (inside name s))) names (expr.Every name (resolved over.0 s) (resolved test.0 (inside name s))) (expr.rolls-Every name (resolved over.0 s) (resolved test.0 (inside name s))) refl
    (and _ _ (over.1 names s h) (test.1 (with_name name names) (inside name s) (binds_inside names s name h)))
level_closed (UnresolvedExpr-F.Each name item over None) names s h =
    rolled (Expr-F.Each name (resolved item.0 (inside name s)) (resolved over.0 s) None) names (expr.Each name (resolved item.0 (inside name s)) (resolved over.0 s) None) (expr.rolls-Each name (resolved item.0 (inside name s)) (resolved over.0 s) None) refl
    (and _ _ (item.1 (with_name name names) (inside name s) (binds_inside names s name h)) (and _ _ (over.1 names s h) (refl)))
level_closed (UnresolvedExpr-F.Each name item over (Some when)) names s h =
    rolled (Expr-F.Each name (resolved item.0 (inside name s)) (resolved over.0 s) (Some (resolved when.0 (inside name s)))) names (expr.Each name (resolved item.0 (inside name s)) (resolved over.0 s) (Some (resolved when.0 (inside name s)))) (expr.rolls-Each name (resolved item.0 (inside name s)) (resolved over.0 s) (Some (resolved when.0 (inside name s)))) refl
    (and _ _ (item.1 (with_name name names) (inside name s) (binds_inside names s name h)) (and _ _ (over.1 names s h) (when.1 (with_name name names) (inside name s) (binds_inside names s name h))))
level_closed (UnresolvedExpr-F.First name item over None) names s h =
    rolled (Expr-F.First name (resolved item.0 (inside name s)) (resolved over.0 s) None) names (expr.First name (resolved item.0 (inside name s)) (resolved over.0 s) None) (expr.rolls-First name (resolved item.0 (inside name s)) (resolved over.0 s) None) refl
    (and _ _ (item.1 (with_name name names) (inside name s) (binds_inside names s name h)) (and _ _ (over.1 names s h) (refl)))
level_closed (UnresolvedExpr-F.First name item over (Some when)) names s h =
    rolled (Expr-F.First name (resolved item.0 (inside name s)) (resolved over.0 s) (Some (resolved when.0 (inside name s)))) names (expr.First name (resolved item.0 (inside name s)) (resolved over.0 s) (Some (resolved when.0 (inside name s)))) (expr.rolls-First name (resolved item.0 (inside name s)) (resolved over.0 s) (Some (resolved when.0 (inside name s)))) refl
    (and _ _ (item.1 (with_name name names) (inside name s) (binds_inside names s name h)) (and _ _ (over.1 names s h) (when.1 (with_name name names) (inside name s) (binds_inside names s name h))))
level_closed (UnresolvedExpr-F.Agg agg None) names s h =
    rolled (Expr-F.Agg agg None) names (expr.Agg agg None) (expr.rolls-Agg agg None) refl
    (refl)
level_closed (UnresolvedExpr-F.Agg agg (Some x)) names s h =
    rolled (Expr-F.Agg agg (Some (resolved x.0 s))) names (expr.Agg agg (Some (resolved x.0 s))) (expr.rolls-Agg agg (Some (resolved x.0 s))) refl
    (x.1 names s h)

closed_at : (y : UnresolvedExpr-F Known) → Closed (resolved (roll-UnresolvedExpr (top y)))
closed_at y names s h =
    subst (λ (f : Scope → Expr). IsTrue (is_closed_in (f s) names)) (sym (fold-roll-UnresolvedExpr (Scope → Expr) level_in (top y))) (level_closed y names s h)

resolved-closed : (x : UnresolvedExpr) → Closed (resolved x)
resolved-closed = ind-UnresolvedExpr (λ x. Closed (resolved x)) (λ x y is. subst (λ z. Closed (resolved (roll-UnresolvedExpr z))) is (closed_at y))

pub resolved-bound : (x : UnresolvedExpr) (s : Scope) → IsTrue (is_closed_in (resolved x s) s.bound)
resolved-bound x s = resolved-closed x s.bound s (λ n h. h)
