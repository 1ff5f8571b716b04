-- A statement that an index covers and the statement over the keys read alike.
use Rattle.std.proofs.Common.{◌≡◌, ℕ, Bool, true, false, not, ◌&&◌, ◌||◌, List, [], ◌∷◌, map, Option, Some, None, option_map, unwrap_or, IsTrue, cond, refl, sym, ap, ap₂, subst, ◌∙◌}
use Rattle.std.specs.List.{AllByRecursion, AllZip, fold, list_all, list_any}
use Rattle.std.specs.Option.{option_and_then, option_map_or, option_or}
use Rattle.std.specs.Str.{bytes_eq}
use Rattle.n1ql_ast.specs.declared.expr.Expr.{Expr}
use Rattle.n1ql_ast.specs.declared.key.Key.{Key}
use Rattle.n1ql_ast.specs.declared.key.Key.TheVariants.{Plain, Each}
use Rattle.n1ql_ast.specs.declared.order.Order.{Order}
use Rattle.n1ql_ast.specs.declared.selection.Selection.{Selection}
use Rattle.n1ql_ast.specs.declared.term.Term.{Term}
use Rattle.n1ql_ast.specs.declared.term.Term.TheVariants.{All, Spread, One}
use Rattle.n1ql_ast.specs.declared.unnest.Unnest.{Unnest}
use Rattle.n1ql_ast.specs.FormedSelections.{unnest_names}
use Rattle.n1ql_ast.specs.FormedStatements.{IsFormedIn, IsFormedKey}
use Rattle.index_def.specs.declared.definition.IndexDef.{IndexDef}
use Rattle.n1ql_spans.specs.Covering.{covers_groups, covers_result, is_covered, is_covered_if_any, is_covered_term, over_keys, plain_keys}
use Rattle.n1ql_meaning.specs.Groups.{has_aggregate, has_aggregate_in, has_any, is_grouped}
use Rattle.n1ql_meaning.specs.Likeness.{ReadAlike, ReadsAs, ReadsIfAny, TermReadsAs, UnnestReadsAs}
use Rattle.n1ql_meaning.specs.OrderKeys.{given_as, last_given_as, order_key}
use Rattle.n1ql_covered.specs.OverKeys.{over_index, over_order, over_term, over_unnest}
use Rattle.n1ql_covered.specs.ShownRows.{keys_on}
use Rattle.n1ql_covered.proofs.Reading.{TreeLaws, both, keeps_aggregates, reads}

pub plain_formed : (keys : List Key) → AllByRecursion IsFormedKey keys → AllByRecursion (IsFormedIn []) (plain_keys keys)
plain_formed [] h = tt
plain_formed (Plain e ∷ keys) h = (h.0, plain_formed keys h.1)
plain_formed (Each distinct item var over when ∷ keys) h = plain_formed keys h.1

-- ---- what a key of ORDER BY means

or_map : {X Y : Type 0} (h : X → Y) (a b : Option X) → option_or (option_map h a) (option_map h b) ≡ option_map h (option_or a b)
or_map h None b = refl
or_map h (Some a) b = refl

unwrap_map : {X Y : Type 0} (h : X → Y) (a : Option X) (d : X) → unwrap_or (option_map h a) (h d) ≡ h (unwrap_or a d)
unwrap_map h None d = refl
unwrap_map h (Some a) d = refl

module _ (keys : List Expr) where
  given_over : (name : List ℕ) (t : Term Expr) → given_as name (over_term keys t) ≡ option_map (over_keys keys) (given_as name t)
  given_over name All = refl
  given_over name (Spread other) = refl
  given_over name (One value None given) = refl
  given_over name (One value (Some own) false) = refl
  given_over name (One value (Some own) true) =
      elim (bytes_eq name own) as (λ b. cond b (Some (over_keys keys value)) None ≡ option_map (over_keys keys) (cond b (Some value) None)) [ true ↦ refl | false ↦ refl ]

  last_given_from : (name : List ℕ) (found : Option Expr) (ts : List (Term Expr))
      → fold (λ found t. option_or (given_as name t) found) (option_map (over_keys keys) found) (map (over_term keys) ts)
      ≡ option_map (over_keys keys) (fold (λ found t. option_or (given_as name t) found) found ts)
  last_given_from name found [] = refl
  last_given_from name found (t ∷ ts) =
      ap (λ x. fold (λ found t. option_or (given_as name t) found) x (map (over_term keys) ts))
      (ap (λ x. option_or x (option_map (over_keys keys) found)) (given_over name t) ∙ or_map (over_keys keys) (given_as name t) found)
      ∙ last_given_from name (option_or (given_as name t) found) ts

  last_given_over : (name : List ℕ) (ts : List (Term Expr)) → last_given_as name (map (over_term keys) ts) ≡ option_map (over_keys keys) (last_given_as name ts)
  last_given_over name ts = last_given_from name None ts

  key_over : (ts : List (Term Expr)) (key : Expr) (alone : Option (List ℕ))
      → unwrap_or (option_and_then (λ name. last_given_as name (map (over_term keys) ts)) alone) (over_keys keys key)
      ≡ over_keys keys (unwrap_or (option_and_then (λ name. last_given_as name ts) alone) key)
  key_over ts key None = refl
  key_over ts key (Some name) = ap (λ x. unwrap_or x (over_keys keys key)) (last_given_over name ts) ∙ unwrap_map (over_keys keys) (last_given_as name ts) key

  -- ---- aggregates

  any_over : {X : Type 0} (h : X → X) (so : X → Bool) → ((x : X) → so (h x) ≡ so x) → (xs : List X) → list_any so (map h xs) ≡ list_any so xs
  any_over h so same [] = refl
  any_over h so same (x ∷ xs) = ap₂ ◌||◌ (same x) (any_over h so same xs)

  has_any_over : {X Y : Type 0} (h : X → Y) (xs : List X) → has_any (map h xs) ≡ has_any xs
  has_any_over h [] = refl
  has_any_over h (x ∷ xs) = refl

  module _ (trees : TreeLaws) (formed : AllByRecursion (IsFormedIn []) keys) where
    aggregate_over : (e : Expr) → has_aggregate (over_keys keys e) ≡ has_aggregate e
    aggregate_over e = ap not (keeps_aggregates keys trees formed e)

    aggregate_if_any : (e : Option Expr) → option_map_or has_aggregate (option_map (over_keys keys) e) false ≡ option_map_or has_aggregate e false
    aggregate_if_any None = refl
    aggregate_if_any (Some e) = aggregate_over e

    aggregate_in_term : (t : Term Expr) → has_aggregate_in (over_term keys t) ≡ has_aggregate_in t
    aggregate_in_term All = refl
    aggregate_in_term (Spread name) = refl
    aggregate_in_term (One value name given) = aggregate_over value

    -- ---- part by part

    read_if_any : (e : Option Expr) → IsTrue (is_covered_if_any keys e) → ReadsIfAny (keys_on keys) (option_map (over_keys keys) e) e
    read_if_any None h = tt
    read_if_any (Some e) h = reads keys trees formed e h

    terms_read : (names : List (List ℕ)) (ts : List (Term Expr)) → IsTrue (list_all (is_covered_term keys names) ts)
        → AllZip (TermReadsAs names (keys_on keys)) (map (over_term keys) ts) ts
    terms_read names [] h = tt
    terms_read names (All ∷ ts) h = absurd cc
    terms_read names (Spread name ∷ ts) h =
        let two = both (list_any (bytes_eq name) names) (list_all (is_covered_term keys names) ts) h in
        ((refl, two.0), terms_read names ts two.1)
    terms_read names (One value name given ∷ ts) h =
        let two = both (is_covered keys value) (list_all (is_covered_term keys names) ts) h in
        ((reads keys trees formed value two.0, refl), terms_read names ts two.1)

    unnests_read : (us : List (Unnest Expr)) → IsTrue (list_all (λ (u : Unnest Expr). is_covered keys u.over) us)
        → AllZip (UnnestReadsAs (keys_on keys)) (map (over_unnest keys) us) us
    unnests_read [] h = tt
    unnests_read (u ∷ us) h =
        let two = both (is_covered keys u.over) (list_all (λ (u : Unnest Expr). is_covered keys u.over) us) h in
        (record { left = refl; name = refl; array = reads keys trees formed u.over two.0 }, unnests_read us two.1)

    all_read : (es : List Expr) → IsTrue (list_all (is_covered keys) es) → AllZip (ReadsAs (keys_on keys)) (map (over_keys keys) es) es
    all_read [] h = tt
    all_read (e ∷ es) h =
        let two = both (is_covered keys e) (list_all (is_covered keys) es) h in
        (reads keys trees formed e two.0, all_read es two.1)

module _ (trees : TreeLaws) (def : IndexDef) (q : Selection Expr) where
  abbrev keys : List Expr
  keys = plain_keys def.keys

  abbrev over : Selection Expr
  over = over_index q def

  order_key_over : (o : Order Expr) → order_key over (over_order keys o) ≡ over_keys keys (order_key q o)
  order_key_over o = key_over keys q.terms o.key o.alone

  module _ (formed : AllByRecursion (IsFormedIn []) keys) where
    orders_read : (os : List (Order Expr)) → IsTrue (list_all (λ o. is_covered keys (order_key q o)) os)
        → AllZip (λ (o p : Order Expr). ReadsAs (keys_on keys) (order_key over o) (order_key q p) × (o.desc ≡ p.desc)) (map (over_order keys) os) os
    orders_read [] h = tt
    orders_read (o ∷ os) h =
        let two = both (is_covered keys (order_key q o)) (list_all (λ o. is_covered keys (order_key q o)) os) h in
        ((subst (λ e. ReadsAs (keys_on keys) e (order_key q o)) (sym (order_key_over o)) (reads keys trees formed (order_key q o) two.0), refl), orders_read os two.1)

    pub grouped_over : is_grouped over ≡ is_grouped q
    grouped_over =
        ap₂ ◌||◌ (has_any_over keys (over_keys keys) q.groups)
        (ap₂ ◌||◌ (aggregate_if_any keys trees formed q.raw)
        (ap₂ ◌||◌ (any_over keys (over_term keys) has_aggregate_in (aggregate_in_term keys trees formed) q.terms)
        (any_over keys (over_order keys) (λ (o : Order Expr). has_aggregate o.key) (λ o. aggregate_over keys trees formed o.key) q.orders)))

    pub read_alike : IsTrue (covers_result keys q) → IsTrue (list_all (λ (u : Unnest Expr). is_covered keys u.over) q.unnests) → IsTrue (covers_groups keys q)
        → ReadAlike (keys_on keys) over q
    read_alike result unnests groups =
        let results = both (is_covered_if_any keys q.raw) (list_all (is_covered_term keys (unnest_names q.unnests)) q.terms) result in
        let grouping = both (list_all (is_covered keys) q.groups) (is_covered_if_any keys q.having && list_all (λ o. is_covered keys (order_key q o)) q.orders) groups in
        let behind = both (is_covered_if_any keys q.having) (list_all (λ o. is_covered keys (order_key q o)) q.orders) grouping.1 in
        record {
          distinct = refl;
          raw = read_if_any keys trees formed q.raw results.0;
          terms = terms_read keys trees formed (unnest_names q.unnests) q.terms results.1;
          unnests = unnests_read keys trees formed q.unnests unnests;
          grouped = grouped_over;
          groups = all_read keys trees formed q.groups grouping.0;
          having = read_if_any keys trees formed q.having behind.0;
          orders = orders_read q.orders behind.1;
          limit = refl;
          offset = refl;
        }
