-- An expression over the keys of an index has of a row the value that it has on the document.
use Rattle.std.proofs.Common.{◌≡◌, ℕ, suc, Bool, true, false, not, ◌&&◌, List, [], ◌∷◌, map, Option, Some, None, option_map, IsTrue, cond, codes, refl, sym, ap, ap₂, subst, ◌∙◌}
use Rattle.std.specs.Prelude.{⊤, unwrap_or}
use Rattle.std.specs.Bool.{Decides}
use Rattle.std.specs.List.{AllByRecursion, filter, find, list_all, list_any, zip}
use mathlib.Core.Path.{fun_ext}
use Rattle.n1ql_value.specs.declared.datum.Datum.{Datum}
use Rattle.n1ql_value.specs.declared.value.Value.{Value}
use Rattle.n1ql_value.specs.declared.value.Value.TheVariants.{Missing, Array}
use Rattle.n1ql_value.specs.declared.value.Value.TheVariants as value
use Rattle.n1ql_value.specs.Arithmetic.{negation_of}
use Rattle.n1ql_value.specs.Collation.{key_at}
use Rattle.n1ql_value.specs.Comparison.{between_of, in_of}
use Rattle.n1ql_value.specs.Constructors.{array_of, object_of}
use Rattle.n1ql_value.specs.Datum.{datum_of, value_of as value_at, value_of-datum_of}
use Rattle.n1ql_value.specs.FunctionValues.{call_of}
use Rattle.n1ql_value.specs.Kinds.{is_true, or_missing, or_null}
use Rattle.n1ql_value.specs.Logic.{not_of}
use Rattle.n1ql_value.specs.Operators.{operation_of}
use Rattle.n1ql_value.specs.Paths.{field_of, place_of}
use Rattle.n1ql_ast.specs.declared.expr.Expr.{Expr, fold-roll-Expr, ind-Expr, map-Expr, roll-Expr}
use Rattle.n1ql_ast.specs.declared.expr.Expr.TheOpen.{Expr-F}
use Rattle.n1ql_ast.specs.declared.expr.Expr.TheVariants as expr
use Rattle.n1ql_ast.specs.Bindings.{Alike, IsClosedIn}
use Rattle.n1ql_ast.specs.Equality.{same_tree}
use Rattle.n1ql_ast.specs.Evaluation.{Environment, elements_given, first_case, inside, meta_of, over_elements, passes, test_of, value_at_element, value_of, values_in}
use Rattle.n1ql_ast.specs.FormedStatements.{IsFormedIn}
use Rattle.n1ql_ast.specs.Forms.{HasNoAggregate, all_hold, has_no_aggregate, held_if_any, is_no_aggregate, of_each_part}
use Rattle.n1ql_spans.specs.Covering.{Covering, covering, covering_at, is_covered, is_on_row, over_keys, own_id, place_among}
use Rattle.n1ql_spans.proofs.Covered.{covering_level}
use Rattle.n1ql_spans.proofs.Maps.{map-map}
use Rattle.n1ql_meaning.specs.Groups.{level_over, value_over}
use Rattle.n1ql_meaning.specs.Likeness.{ReadsAs, bare, viewed, viewed_group}
use Rattle.n1ql_meaning.proofs.Alike.{aggregate_seen}
use Rattle.n1ql_meaning.proofs.Levels.{plain_outside, plain_without, value_over-roll}
use Rattle.n1ql_covered.specs.ShownRows.{keys_on}

pub record TreeLaws : Type 0 where
  pub same : (a b : Expr) → Decides (same_tree a b) (a ≡ b)
  pub closed : (e : Expr) (names : List (List ℕ)) → IsClosedIn names e → (a b : Environment) → Alike names a b → value_of e a ≡ value_of e b

pub both : (a b : Bool) → IsTrue (a && b) → IsTrue a × IsTrue b
both true b h = (refl, h)
both false b h = absurd cc

-- ---- META().id

meta_value : (group : Option (List Environment)) (env : Environment) → value_over group (expr.MetaOf true) env ≡ or_missing (option_map meta_of env.id)
meta_value group env = ap (λ e. value_over group e env) (sym (expr.rolls-MetaOf true)) ∙ value_over-roll group (Expr-F.MetaOf true) env

id_value : (group : Option (List Environment)) (env : Environment) → value_over group own_id env ≡ field_of (codes "id") (or_missing (option_map meta_of env.id))
id_value group env =
    ap (λ e. value_over group e env) (sym (expr.rolls-Field (expr.MetaOf true) (codes "id")))
    ∙ (value_over-roll group (Expr-F.Field (expr.MetaOf true) (codes "id")) env ∙ ap (field_of (codes "id")) (meta_value group env))

-- ---- keys

-- What is known of the place of an expression among keys: no aggregate stands in it, and its value stands there.
abbrev Placed : List Expr → Expr → Option ℕ → Type 0
Placed ks e None = ⊤
Placed ks e (Some place) = HasNoAggregate e × ((env : Environment) → value_at (key_at (keys_on ks (bare env)) place) ≡ value_of e env)

further : (k : Expr) (ks : List Expr) (e : Expr) (place : Option ℕ) → Placed ks e place → Placed (k ∷ ks) e (option_map suc place)
further k ks e None h = tt
further k ks e (Some place) h = (h.0, λ env. h.1 env)

module _ (trees : TreeLaws) where
  closed_bare : (e : Expr) → IsClosedIn [] e → (env : Environment) → value_of e (bare env) ≡ value_of e env
  closed_bare e h env = trees.closed e [] h (bare env) env (record { id = refl; doc = refl; keys = refl; bound = λ n h. absurd cc })

  first_place : (k : Expr) (ks : List Expr) → IsFormedIn [] k → (e : Expr) → k ≡ e → Placed (k ∷ ks) e (Some 0)
  first_place k ks formed e is = (
    subst HasNoAggregate is formed.0.1,
    λ env. value_of-datum_of (value_of k (bare env)) ∙ (closed_bare k formed.1 env ∙ ap (λ x. value_of x env) is),
  )

  placed : (ks : List Expr) → AllByRecursion (IsFormedIn []) ks → (e : Expr) → Placed ks e (place_among ks e)
  placed [] formed e = tt
  placed (k ∷ ks) formed e =
      elim (same_tree k e) as (λ b. same_tree k e ≡ b → Placed (k ∷ ks) e (cond b (Some 0) (option_map suc (place_among ks e)))) [
        | true ↦ λ is. first_place k ks formed.0 e ((trees.same k e).0 is)
        | false ↦ λ is. further k ks e (place_among ks e) (placed ks formed.1 e)
      ] refl

  own_id_is : (e : Expr) → same_tree own_id e ≡ true → own_id ≡ e
  own_id_is e is = (trees.same own_id e).0 is

-- ---- one level

module _ (keys : List Expr) where
  abbrev show : Environment → Environment
  show = viewed (keys_on keys)

  abbrev Reads : Expr → Type 0
  Reads e = IsTrue (is_covered keys e) → ReadsAs (keys_on keys) (over_keys keys e) e

  abbrev Part : Type 0
  Part = (e : Expr) × Reads e

  abbrev top : Expr-F Part → Expr-F Expr
  top y = map-Expr Part Expr (λ k. k.0) y

  abbrev wholes : List Part → List Expr
  wholes xs = map (λ (k : Part). k.0) xs

  module _ (group : Option (List Environment)) where
    abbrev f : Expr → Environment → Value
    f e = value_over (viewed_group (keys_on keys) group) (over_keys keys e)

    abbrev g : Expr → Environment → Value
    g = value_over group

    at_part : (x : Part) → IsTrue (is_covered keys x.0) → (env : Environment) → f x.0 (show env) ≡ g x.0 env
    at_part x h env = x.1 h group env

    all_values : (xs : List Part) → IsTrue (all_hold (map (is_covered keys) (wholes xs))) → (env : Environment)
        → values_in (map f (wholes xs)) (show env) ≡ values_in (map g (wholes xs)) env
    all_values [] h env = refl
    all_values (x ∷ xs) h env =
        let two = both (is_covered keys x.0) (all_hold (map (is_covered keys) (wholes xs))) h in
        ap₂ ◌∷◌ (at_part x two.0 env) (all_values xs two.1 env)

    test_at : (name : List ℕ) (x : Part) → IsTrue (is_covered keys x.0) → (env : Environment) → passes (Some (f x.0)) name (show env) ≡ passes (Some (g x.0)) name env
    test_at name x h env = fun_ext (λ v. ap is_true (at_part x h (inside name v env)))

    item_at : (name : List ℕ) (x : Part) → IsTrue (is_covered keys x.0) → (env : Environment) → value_at_element (f x.0) name (show env) ≡ value_at_element (g x.0) name env
    item_at name x h env = fun_ext (λ v. at_part x h (inside name v env))

    no_aggregate : (agg : _) (env : Environment)
        → level_over (viewed_group (keys_on keys) group) (Expr-F.Agg agg None) (show env) ≡ level_over group (Expr-F.Agg agg None) env
    no_aggregate agg env =
        elim group as (λ rows. level_over (viewed_group (keys_on keys) rows) (Expr-F.Agg agg None) (show env) ≡ level_over rows (Expr-F.Agg agg None) env) [
          | None ↦ refl
          | Some rows ↦ aggregate_seen (keys_on keys) (Some rows) agg (λ row. Missing) (λ row. Missing) (λ row. refl) env
        ]

    abbrev LevelSame : Expr-F Expr → Type 0
    LevelSame l = (env : Environment) → level_over (viewed_group (keys_on keys) group) (map-Expr Expr (Environment → Value) f l) (show env)
        ≡ level_over group (map-Expr Expr (Environment → Value) g l) env

    level_same : (y : Expr-F Part) → IsTrue (is_on_row (top y)) → IsTrue (of_each_part (map-Expr Expr Bool (is_covered keys) (top y))) → LevelSame (top y)
    level_same (Expr-F.Const v) o h env = refl
    level_same Expr-F.Doc o h env = absurd cc
    level_same (Expr-F.MetaOf own) o h env = refl
    level_same (Expr-F.Var name) o h env = refl
    level_same (Expr-F.Key at) o h env = absurd cc
    level_same (Expr-F.Field x name) o h env = ap (field_of name) (at_part x h env)
    level_same (Expr-F.Place x at) o h env =
        let two = both (is_covered keys x.0) (is_covered keys at.0) h in
        ap₂ place_of (at_part x two.0 env) (at_part at two.1 env)
    level_same (Expr-F.Not x) o h env = ap not_of (at_part x h env)
    level_same (Expr-F.Neg x) o h env = ap negation_of (at_part x h env)
    level_same (Expr-F.Two op x y) o h env =
        let two = both (is_covered keys x.0) (is_covered keys y.0) h in
        ap₂ (operation_of op) (at_part x two.0 env) (at_part y two.1 env)
    level_same (Expr-F.Is test x) o h env = ap (test_of test) (at_part x h env)
    level_same (Expr-F.Among x y) o h env =
        let two = both (is_covered keys x.0) (is_covered keys y.0) h in
        ap₂ in_of (at_part x two.0 env) (at_part y two.1 env)
    level_same (Expr-F.Between x low high) o h env =
        let two = both (is_covered keys x.0) (is_covered keys low.0 && is_covered keys high.0) h in
        let rest = both (is_covered keys low.0) (is_covered keys high.0) two.1 in
        ap (λ v. between_of v (f low.0 (show env)) (f high.0 (show env))) (at_part x two.0 env)
        ∙ ap₂ (between_of (g x.0 env)) (at_part low rest.0 env) (at_part high rest.1 env)
    level_same (Expr-F.Call fun xs) o h env = ap (λ vs. call_of fun (map datum_of vs)) (all_values xs h env)
    level_same (Expr-F.List xs) o h env = ap (λ vs. array_of (map datum_of vs)) (all_values xs h env)
    level_same (Expr-F.Build names xs) o h env = ap (λ vs. object_of (zip names (map datum_of vs))) (all_values xs h env)
    level_same (Expr-F.Case whens thens None) o h env =
        let two = both (all_hold (map (is_covered keys) (wholes whens))) (all_hold (map (is_covered keys) (wholes thens)) && true) h in
        let rest = both (all_hold (map (is_covered keys) (wholes thens))) true two.1 in
        ap₂ (λ ws ts. unwrap_or (first_case ws ts) (or_null None)) (all_values whens two.0 env) (all_values thens rest.0 env)
    level_same (Expr-F.Case whens thens (Some other)) o h env =
        let two = both (all_hold (map (is_covered keys) (wholes whens))) (all_hold (map (is_covered keys) (wholes thens)) && is_covered keys other.0) h in
        let rest = both (all_hold (map (is_covered keys) (wholes thens))) (is_covered keys other.0) two.1 in
        ap₂ (λ ws ts. unwrap_or (first_case ws ts) (f other.0 (show env))) (all_values whens two.0 env) (all_values thens rest.0 env)
        ∙ ap (λ v. unwrap_or (first_case (values_in (map g (wholes whens)) env) (values_in (map g (wholes thens)) env)) v) (at_part other rest.1 env)
    level_same (Expr-F.Any name over test) o h env =
        let two = both (is_covered keys over.0) (is_covered keys test.0) h in
        ap₂ (λ so v. over_elements (λ vs. value.Bool (list_any so vs)) v) (test_at name test two.1 env) (at_part over two.0 env)
    level_same (Expr-F.Every name over test) o h env =
        let two = both (is_covered keys over.0) (is_covered keys test.0) h in
        ap₂ (λ so v. over_elements (λ vs. value.Bool (list_all so vs)) v) (test_at name test two.1 env) (at_part over two.0 env)
    level_same (Expr-F.Each name item over None) o h env =
        let two = both (is_covered keys item.0) (is_covered keys over.0 && true) h in
        let rest = both (is_covered keys over.0) true two.1 in
        ap₂ (λ at v. over_elements (λ vs. Array (elements_given (map at (filter (passes None name env) vs)))) v) (item_at name item two.0 env) (at_part over rest.0 env)
    level_same (Expr-F.Each name item over (Some when)) o h env =
        let two = both (is_covered keys item.0) (is_covered keys over.0 && is_covered keys when.0) h in
        let rest = both (is_covered keys over.0) (is_covered keys when.0) two.1 in
        ap (λ so. over_elements (λ vs. Array (elements_given (map (value_at_element (f item.0) name (show env)) (filter so vs)))) (f over.0 (show env))) (test_at name when rest.1 env)
        ∙ ap₂ (λ at v. over_elements (λ vs. Array (elements_given (map at (filter (passes (Some (g when.0)) name env) vs)))) v) (item_at name item two.0 env) (at_part over rest.0 env)
    level_same (Expr-F.First name item over None) o h env =
        let two = both (is_covered keys item.0) (is_covered keys over.0 && true) h in
        let rest = both (is_covered keys over.0) true two.1 in
        ap₂ (λ at v. over_elements (λ vs. or_missing (option_map at (find (passes None name env) vs))) v) (item_at name item two.0 env) (at_part over rest.0 env)
    level_same (Expr-F.First name item over (Some when)) o h env =
        let two = both (is_covered keys item.0) (is_covered keys over.0 && is_covered keys when.0) h in
        let rest = both (is_covered keys over.0) (is_covered keys when.0) two.1 in
        ap (λ so. over_elements (λ vs. or_missing (option_map (value_at_element (f item.0) name (show env)) (find so vs))) (f over.0 (show env))) (test_at name when rest.1 env)
        ∙ ap₂ (λ at v. over_elements (λ vs. or_missing (option_map at (find (passes (Some (g when.0)) name env) vs))) v) (item_at name item two.0 env) (at_part over rest.0 env)
    level_same (Expr-F.Agg agg None) o h env = no_aggregate agg env
    level_same (Expr-F.Agg agg (Some x)) o h env = aggregate_seen (keys_on keys) group agg (f x.0) (g x.0) (at_part x h) env

  -- ---- by the place of an expression among the keys

  abbrev itself : Expr → Covering
  itself e = record { whole = e; over = e; covered = true }

  abbrev by_parts : Expr → Expr-F Covering → Covering
  by_parts e m = record { whole = e; over = roll-Expr (map-Expr Covering Expr (λ c. c.over) m); covered = is_on_row m && of_each_part (map-Expr Covering Bool (λ c. c.covered) m) }

  on_row-map : {A B : Type 0} (h : A → B) (l : Expr-F A) → is_on_row (map-Expr A B h l) ≡ is_on_row l
  on_row-map h Expr-F.Doc = refl
  on_row-map h (Expr-F.MetaOf own) = refl
  on_row-map h (Expr-F.Key at) = refl
  on_row-map h l = refl

  module _ (trees : TreeLaws) (formed : AllByRecursion (IsFormedIn []) keys) where
    -- the value of the key in place of the expression
    key_reads : (e : Expr) (place : ℕ) → Placed keys e (Some place) → ReadsAs (keys_on keys) (expr.Key place) e
    key_reads e place at group env =
        ap (λ x. value_over (viewed_group (keys_on keys) group) x (show env)) (sym (expr.rolls-Key place))
        ∙ (value_over-roll (viewed_group (keys_on keys) group) (Expr-F.Key place) (show env)
        ∙ (at.1 env ∙ sym (plain_without e at.0 group env)))

    id_reads : (e : Expr) → own_id ≡ e → ReadsAs (keys_on keys) e e
    id_reads e is group env =
        ap (λ x. value_over (viewed_group (keys_on keys) group) x (show env)) (sym is)
        ∙ (id_value (viewed_group (keys_on keys) group) (show env) ∙ (sym (id_value group env) ∙ ap (λ x. value_over group x env) is))

    parts_read : (y : Expr-F Part) → IsTrue (by_parts (roll-Expr (top y)) (map-Expr Expr Covering (covering keys) (top y))).covered
        → ReadsAs (keys_on keys) (by_parts (roll-Expr (top y)) (map-Expr Expr Covering (covering keys) (top y))).over (roll-Expr (top y))
    parts_read y h group env =
        let l : Expr-F Expr = top y in
        let m : Expr-F Covering = map-Expr Expr Covering (covering keys) l in
        let p : Option (List Environment) = viewed_group (keys_on keys) group in
        let two = both (is_on_row m) (of_each_part (map-Expr Covering Bool (λ c. c.covered) m)) h in
        let on_row : IsTrue (is_on_row l) = subst IsTrue (on_row-map (covering keys) l) two.0 in
        let parts : IsTrue (of_each_part (map-Expr Expr Bool (is_covered keys) l)) = subst (λ z. IsTrue (of_each_part z)) (map-map (covering keys) (λ (c : Covering). c.covered) l) two.1 in
        value_over-roll p (map-Expr Covering Expr (λ c. c.over) m) (show env)
        ∙ (ap (λ (z : Expr-F (Environment → Value)). level_over p z (show env))
        (ap (map-Expr Expr (Environment → Value) (value_over p)) (map-map (covering keys) (λ (c : Covering). c.over) l) ∙ map-map (over_keys keys) (value_over p) l)
        ∙ (level_same group y on_row parts env ∙ sym (value_over-roll group l env)))

    by_place : (y : Expr-F Part) (place : Option ℕ) → Placed keys (roll-Expr (top y)) place
        → IsTrue (covering_at place (roll-Expr (top y)) (map-Expr Expr Covering (covering keys) (top y))).covered
        → ReadsAs (keys_on keys) (covering_at place (roll-Expr (top y)) (map-Expr Expr Covering (covering keys) (top y))).over (roll-Expr (top y))
    by_place y (Some place) at h = key_reads (roll-Expr (top y)) place at
    by_place y None at h =
        let e : Expr = roll-Expr (top y) in
        let m : Expr-F Covering = map-Expr Expr Covering (covering keys) (top y) in
        elim (same_tree own_id e) as (λ b. same_tree own_id e ≡ b → IsTrue (cond b (itself e) (by_parts e m)).covered → ReadsAs (keys_on keys) (cond b (itself e) (by_parts e m)).over e) [
          | true ↦ λ is k. id_reads e (own_id_is trees e is)
          | false ↦ λ is k. parts_read y k
        ] refl h

    reads_at : (y : Expr-F Part) → Reads (roll-Expr (top y))
    reads_at y =
        subst (λ (c : Covering). IsTrue c.covered → ReadsAs (keys_on keys) c.over (roll-Expr (top y))) (sym (covering_level keys (top y)))
        (by_place y (place_among keys (roll-Expr (top y))) (placed trees keys formed (roll-Expr (top y))))

    pub reads : (e : Expr) → Reads e
    reads = ind-Expr Reads (λ x y is. subst (λ z. Reads (roll-Expr z)) is (reads_at y))

    -- outside of a group
    pub plain_reads : (e : Expr) → IsTrue (is_covered keys e) → (env : Environment) → value_of (over_keys keys e) (show env) ≡ value_of e env
    plain_reads e h env = sym (plain_outside (over_keys keys e) (show env)) ∙ (reads e h None env ∙ plain_outside e env)

    -- ---- aggregates

    abbrev Keeps : Expr → Type 0
    Keeps e = has_no_aggregate (over_keys keys e) ≡ has_no_aggregate e

    abbrev Kept : Type 0
    Kept = (e : Expr) × Keeps e

    abbrev kept_top : Expr-F Kept → Expr-F Expr
    kept_top y = map-Expr Kept Expr (λ k. k.0) y

    no_aggregate-roll : (l : Expr-F Expr) → has_no_aggregate (roll-Expr l) ≡ (is_no_aggregate (map-Expr Expr Bool has_no_aggregate l) && of_each_part (map-Expr Expr Bool has_no_aggregate l))
    no_aggregate-roll l = fold-roll-Expr Bool (λ l. is_no_aggregate l && of_each_part l) l

    key_alone : (place : ℕ) → has_no_aggregate (expr.Key place) ≡ true
    key_alone place = ap has_no_aggregate (sym (expr.rolls-Key place)) ∙ no_aggregate-roll (Expr-F.Key place)

    parts_keep : (y : Expr-F Kept) → has_no_aggregate (roll-Expr (map-Expr Covering Expr (λ c. c.over) (map-Expr Expr Covering (covering keys) (kept_top y)))) ≡ has_no_aggregate (roll-Expr (kept_top y))
    parts_keep y =
        let l : Expr-F Expr = kept_top y in
        ap (λ z. has_no_aggregate (roll-Expr z)) (map-map (covering keys) (λ (c : Covering). c.over) l)
        ∙ (no_aggregate-roll (map-Expr Expr Expr (over_keys keys) l)
        ∙ (ap (λ z. is_no_aggregate z && of_each_part z)
        (map-map (over_keys keys) has_no_aggregate l
        ∙ (map-map (λ (k : Kept). k.0) (λ e. has_no_aggregate (over_keys keys e)) y
        ∙ (ap (λ (h : Kept → Bool). map-Expr Kept Bool h y) (fun_ext (λ k. k.1)) ∙ sym (map-map (λ (k : Kept). k.0) has_no_aggregate y))))
        ∙ sym (no_aggregate-roll l)))

    keeps_place : (y : Expr-F Kept) (place : Option ℕ) → Placed keys (roll-Expr (kept_top y)) place
        → has_no_aggregate (covering_at place (roll-Expr (kept_top y)) (map-Expr Expr Covering (covering keys) (kept_top y))).over ≡ has_no_aggregate (roll-Expr (kept_top y))
    keeps_place y (Some place) at = key_alone place ∙ sym at.0
    keeps_place y None at =
        let e : Expr = roll-Expr (kept_top y) in
        let m : Expr-F Covering = map-Expr Expr Covering (covering keys) (kept_top y) in
        elim (same_tree own_id e) as (λ b. has_no_aggregate (cond b (itself e) (by_parts e m)).over ≡ has_no_aggregate e) [
          | true ↦ refl
          | false ↦ parts_keep y
        ]

    keeps_at : (y : Expr-F Kept) → Keeps (roll-Expr (kept_top y))
    keeps_at y =
        ap (λ (c : Covering). has_no_aggregate c.over) (covering_level keys (kept_top y))
        ∙ keeps_place y (place_among keys (roll-Expr (kept_top y))) (placed trees keys formed (roll-Expr (kept_top y)))

    pub keeps_aggregates : (e : Expr) → Keeps e
    keeps_aggregates = ind-Expr Keeps (λ x y is. subst (λ z. Keeps (roll-Expr z)) is (keeps_at y))
