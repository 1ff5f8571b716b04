-- The conditions on expressions that the grammar keeps: counts of arguments, and where aggregates stand.
use Rattle.std.proofs.Common.{◌≡◌, ◌==◌, Bool, true, false, ◌&&◌, ◌||◌, List, [], ◌∷◌, length, map, Some, None, IsTrue, refl, sym, ap, ap₂, subst}
use Rattle.std.proofs.lemmas.List.{length-map}
use Rattle.n1ql_ast.specs.declared.expr.Expr.{Expr, fold-roll-Expr, map-Expr, roll-Expr}
use Rattle.n1ql_ast.specs.declared.expr.Expr.TheOpen.{Expr-F}
use Rattle.n1ql_ast.specs.declared.scope.Scope.{Scope}
use Rattle.n1ql_ast.specs.declared.token_class.TokenClass.{TokenClass}
use Rattle.n1ql_ast.specs.declared.unresolved_expr.UnresolvedExpr.{UnresolvedExpr}
use Rattle.n1ql_ast.specs.FormedSelections.{has_aggregates_apart}
use Rattle.n1ql_ast.specs.Forms.{IsWellFormed, HasNoAggregate, all_hold, has_its_counts, has_no_aggregate, is_no_aggregate, is_well_formed, of_each_part, takes_count}
use Rattle.n1ql_ast.specs.Grammar.{IsWhole}
use Rattle.n1ql_ast.specs.Names.{resolved}
use Rattle.n1ql_parse.proofs.Formed.{kept}
use Rattle.n1ql_parse.proofs.Kept.{Allows, both}

-- Counts.

counts_mapped : (f : Expr → Bool) (l : Expr-F Expr) → IsTrue (has_its_counts l) → IsTrue (has_its_counts (map-Expr Expr Bool f l))
counts_mapped f (Expr-F.Call fun xs) h = subst (λ n. IsTrue (takes_count fun n)) (sym (length-map xs f)) h
counts_mapped f (Expr-F.Build names xs) h = subst (λ n. IsTrue (length names == n)) (sym (length-map xs f)) h
counts_mapped f (Expr-F.Case whens thens other) h =
    subst (λ n. IsTrue (n == length (map f thens))) (sym (length-map whens f)) (subst (λ n. IsTrue (length whens == n)) (sym (length-map thens f)) h)
counts_mapped f _ h = refl

-- the same wherever it stands
abbrev pub counted_where : Bool → Expr → Bool
counted_where agg e = is_well_formed e

pub allows-counts : Allows counted_where
allows-counts agg l counts none parts =
    subst IsTrue (sym (fold-roll-Expr Bool (λ l. has_its_counts l && of_each_part l) l)) (both (counts_mapped is_well_formed l counts) parts)

-- No aggregates.

-- nothing is asked where aggregates may stand
abbrev pub plain_where : Bool → Expr → Bool
plain_where true e = true
plain_where false e = has_no_aggregate e

and_false : (b : Bool) → (b && false) ≡ false
and_false true = refl
and_false false = refl

plain_mapped : (l : Expr-F Expr) → IsTrue (is_no_aggregate l || false) → IsTrue (is_no_aggregate (map-Expr Expr Bool has_no_aggregate l))
plain_mapped (Expr-F.Agg a x) h = absurd cc
plain_mapped _ h = refl

pub allows-plain : Allows plain_where
allows-plain true l counts none parts = refl
allows-plain false l counts none parts =
    subst IsTrue (sym (fold-roll-Expr Bool (λ l. is_no_aggregate l && of_each_part l) l))
    (both (plain_mapped l none) (subst (λ b. IsTrue (of_each_part (map-Expr Expr Bool (plain_where b) l))) (and_false (is_no_aggregate l)) parts))

-- Aggregates apart.

abbrev pub apart_where : Bool → Expr → Bool
apart_where agg e = has_aggregates_apart e agg

kind_mapped : (l : Expr-F Expr) → is_no_aggregate (map-Expr Expr (Bool → Bool) has_aggregates_apart l) ≡ is_no_aggregate l
kind_mapped (Expr-F.Agg a x) = refl
kind_mapped _ = refl

-- each part by itself, and then whether aggregates may stand in it
listed_once : (g : Expr → Bool → Bool) (b : Bool) (xs : List Expr) → map (λ (f : Bool → Bool). f b) (map g xs) ≡ map (λ e. g e b) xs
listed_once g b [] = refl
listed_once g b (x ∷ xs) = ap (λ bs. g x b ∷ bs) (listed_once g b xs)

parts_once : (g : Expr → Bool → Bool) (b : Bool) (l : Expr-F Expr) →
    of_each_part (map-Expr (Bool → Bool) Bool (λ f. f b) (map-Expr Expr (Bool → Bool) g l)) ≡ of_each_part (map-Expr Expr Bool (λ e. g e b) l)
parts_once g b (Expr-F.Call fun xs) = ap all_hold (listed_once g b xs)
parts_once g b (Expr-F.List xs) = ap all_hold (listed_once g b xs)
parts_once g b (Expr-F.Build names xs) = ap all_hold (listed_once g b xs)
parts_once g b (Expr-F.Case whens thens None) = ap₂ (λ ws ts. all_hold ws && (all_hold ts && true)) (listed_once g b whens) (listed_once g b thens)
parts_once g b (Expr-F.Case whens thens (Some x)) = ap₂ (λ ws ts. all_hold ws && (all_hold ts && g x b)) (listed_once g b whens) (listed_once g b thens)
parts_once g b (Expr-F.Each name item over None) = refl
parts_once g b (Expr-F.Each name item over (Some when)) = refl
parts_once g b (Expr-F.First name item over None) = refl
parts_once g b (Expr-F.First name item over (Some when)) = refl
parts_once g b (Expr-F.Agg a None) = refl
parts_once g b (Expr-F.Agg a (Some x)) = refl
parts_once g b _ = refl

pub allows-apart : Allows apart_where
allows-apart agg l counts none parts =
    let m = map-Expr Expr (Bool → Bool) has_aggregates_apart l in
    let whole : has_aggregates_apart (roll-Expr l) agg ≡ ((is_no_aggregate m || agg) && of_each_part (map-Expr (Bool → Bool) Bool (λ x. x (is_no_aggregate m && agg)) m)) =
    ap (λ (f : Bool → Bool). f agg)
    (fold-roll-Expr (Bool → Bool) (λ l may. (is_no_aggregate l || may) && of_each_part (map-Expr (Bool → Bool) Bool (λ x. x (is_no_aggregate l && may)) l)) l) in
    subst IsTrue (sym whole)
    (subst (λ b. IsTrue ((b || agg) && of_each_part (map-Expr (Bool → Bool) Bool (λ x. x (b && agg)) m))) (sym (kind_mapped l))
    (both none (subst IsTrue (sym (parts_once has_aggregates_apart (is_no_aggregate l && agg) l)) parts)))

pub whole-formed : (ts : List TokenClass) (x : UnresolvedExpr) (s : Scope) → IsWhole ts x → IsWellFormed (resolved x s)
whole-formed ts x s h = kept counted_where false allows-counts h s

pub whole-plain : (ts : List TokenClass) (x : UnresolvedExpr) (s : Scope) → IsWhole ts x → HasNoAggregate (resolved x s)
whole-plain ts x s h = kept plain_where false allows-plain h s
