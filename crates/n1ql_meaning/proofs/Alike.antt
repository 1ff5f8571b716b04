-- Statements that read alike give the same results: one on documents, and one on what rows of an index show of them.
use Rattle.std.proofs.Common.{◌≡◌, ℕ, suc, pos, Bool, true, false, ◌||◌, List, [], ◌∷◌, ◌++◌, map, reverse, drop, cond, codes, Option, Some, None, unwrap_or, IsTrue, refl, sym, ap, ap₂, subst, ◌∙◌, if◌then◌else◌}
use Rattle.std.specs.Cmp.{IsTotalOrder}
use Rattle.std.specs.Fmt.{signed_decimal}
use Rattle.std.specs.List.{AllByRecursion, AllZip, filter, flat_map, list_any}
use Rattle.std.specs.Option.{option_map_or}
use Rattle.std.specs.Ordering.{is_eq, is_gt, ordering_then}
use Rattle.std.specs.declared.cmp.Ordering.{Ordering}
use Rattle.std.specs.Str.{bytes_eq}
use Rattle.std.proofs.lemmas.Cmp.{lists_total, tied_itself}
use Rattle.std.proofs.lemmas.List.{map-append}
use mathlib.Core.Path.{fun_ext}
use Rattle.n1ql_value.specs.declared.datum.Datum.{Datum}
use Rattle.n1ql_value.specs.declared.value.Value.{Value}
use Rattle.n1ql_value.specs.declared.value.Value.TheVariants.{Missing}
use Rattle.n1ql_value.specs.Collation.{key_at, value_cmp}
use Rattle.n1ql_value.specs.Constructors.{object_of}
use Rattle.n1ql_value.specs.Datum.{datum_of, value_of as value_at}
use Rattle.n1ql_value.specs.Kinds.{array_in, is_true, object_in, or_missing}
use Rattle.n1ql_value.specs.Names.{under_name}
use Rattle.sorted_lists.specs.SortedLists.{each_once, insert_sorted, sort_of}
use Rattle.sorted_lists.proofs.Members.{list_any-map}
use Rattle.n1ql_ast.specs.declared.agg.Agg.{Agg}
use Rattle.n1ql_ast.specs.declared.expr.Expr.{Expr}
use Rattle.n1ql_ast.specs.declared.expr.Expr.TheOpen.{Expr-F}
use Rattle.n1ql_ast.specs.declared.expr.Expr.TheVariants as expr
use Rattle.n1ql_ast.specs.declared.order.Order.{Order}
use Rattle.n1ql_ast.specs.declared.scope.Scope.{Scope}
use Rattle.n1ql_ast.specs.declared.selection.Selection.{Selection}
use Rattle.n1ql_ast.specs.declared.term.Term.{Term}
use Rattle.n1ql_ast.specs.declared.term.Term.TheVariants.{All, Spread, One}
use Rattle.n1ql_ast.specs.declared.unnest.Unnest.{Unnest}
use Rattle.n1ql_ast.specs.Evaluation.{Environment, value_of}
use Rattle.n1ql_ast.specs.FormedSelections.{unnest_names}
use Rattle.n1ql_ast.specs.Names.{name_in}
use Rattle.n1ql_meaning.specs.Aggregates.{aggregate_of}
use Rattle.n1ql_meaning.specs.Finish.{cut, finished, first_of_each, orders_cmp, placed_cmp}
use Rattle.n1ql_meaning.specs.Groups.{group_keys, group_of, groups_of, has_any, is_grouped, on_row, over_rows, value_over}
use Rattle.n1ql_meaning.specs.Likeness.{ReadAlike, ReadsAs, ReadsIfAny, TermReadsAs, UnnestReadsAs, WhereAlike, viewed, viewed_group, viewed_row}
use Rattle.n1ql_meaning.specs.Meaning.{results_of_rows}
use Rattle.n1ql_meaning.specs.OrderKeys.{order_key}
use Rattle.n1ql_meaning.specs.Results.{PlacedResult, Subject, first_of, group_whole, has, pairs_of_term, pairs_of_terms, placed_result, row_alone, scope_of, subjects_of, value_on}
use Rattle.n1ql_meaning.specs.Rows.{InputRow, base_cmp, meets, row_of_document, rows_from, rows_of, unnested, unnested_by, unnested_over, with_element, with_elements}
use Rattle.n1ql_meaning.proofs.Levels.{plain_outside, value_over-roll}
use Rattle.n1ql_meaning.proofs.RowsByDocument.{IsRowOf, rows_are_of, rows_from-append, rows_from-nil, rows_of-cons}

-- ---- lists

all_weaker : {X : Type 0} (P Q : X → Type 0) → ((x : X) → P x → Q x) → (xs : List X) → AllByRecursion P xs → AllByRecursion Q xs
all_weaker P Q f [] h = tt
all_weaker P Q f (x ∷ xs) h = (f x h.0, all_weaker P Q f xs h.1)

all_of : {X : Type 0} (P : X → Type 0) → ((x : X) → P x) → (xs : List X) → AllByRecursion P xs
all_of P f [] = tt
all_of P f (x ∷ xs) = (f x, all_of P f xs)

-- a test of what is seen is the test of what it is seen of
filter-seen : {X Y : Type 0} (view : X → Y) (f : Y → Bool) (g : X → Bool) (xs : List X) → AllByRecursion (λ x. f (view x) ≡ g x) xs
    → filter f (map view xs) ≡ map view (filter g xs)
filter-seen view f g [] h = refl
filter-seen view f g (x ∷ xs) h =
    ap (λ b. cond b (view x ∷ filter f (map view xs)) (filter f (map view xs))) h.0
    ∙ elim (g x) as (λ b. cond b (view x ∷ filter f (map view xs)) (filter f (map view xs)) ≡ map view (cond b (x ∷ filter g xs) (filter g xs))) [
      | true ↦ ap (λ ys. view x ∷ ys) (filter-seen view f g xs h.1)
      | false ↦ filter-seen view f g xs h.1
    ]

map-seen : {X Y Z : Type 0} (view : X → Y) (f : Y → Z) (g : X → Z) → ((x : X) → f (view x) ≡ g x) → (xs : List X) → map f (map view xs) ≡ map g xs
map-seen view f g same [] = refl
map-seen view f g same (x ∷ xs) = ap₂ ◌∷◌ (same x) (map-seen view f g same xs)

map-exchanged : {X Y Z W : Type 0} (view : X → Y) (f : Y → Z) (g : X → W) (see : W → Z) → ((x : X) → f (view x) ≡ see (g x)) → (xs : List X) → map f (map view xs) ≡ map see (map g xs)
map-exchanged view f g see same [] = refl
map-exchanged view f g see same (x ∷ xs) = ap₂ ◌∷◌ (same x) (map-exchanged view f g see same xs)

has_any-filter : {X : Type 0} (so : X → Bool) (xs : List X) → has_any (filter so xs) ≡ list_any so xs
has_any-filter so [] = refl
has_any-filter so (x ∷ xs) = elim (so x) as (λ b. has_any (cond b (x ∷ filter so xs) (filter so xs)) ≡ (b || list_any so xs)) [ true ↦ refl | false ↦ has_any-filter so xs ]

or_true : (a b : Bool) → b ≡ true → (a || b) ≡ true
or_true true b h = refl
or_true false b h = h

module _ {X : Type 0} (R : X → X → Ordering) (P : X → Type 0) where
  all_inserted : (x : X) → P x → (ys : List X) → AllByRecursion P ys → AllByRecursion P (insert_sorted R x ys)
  all_inserted x p [] h = (p, tt)
  all_inserted x p (y ∷ ys) h =
      elim (is_gt (R x y)) as (λ b. AllByRecursion P (cond b (y ∷ insert_sorted R x ys) (x ∷ y ∷ ys))) [
        | true ↦ (h.0, all_inserted x p ys h.1)
        | false ↦ (p, h)
      ]

  all_sorted : (xs : List X) → AllByRecursion P xs → AllByRecursion P (sort_of R xs)
  all_sorted [] h = tt
  all_sorted (x ∷ xs) h = all_inserted x h.0 (sort_of R xs) (all_sorted xs h.1)

  all_once : (xs : List X) → AllByRecursion P xs → AllByRecursion P (each_once R xs)
  all_once [] h = tt
  all_once (x ∷ xs) h =
      elim (list_any (λ y. is_eq (R x y)) xs) as (λ b. AllByRecursion P (cond b (each_once R xs) (x ∷ each_once R xs))) [
        | true ↦ all_once xs h.1
        | false ↦ (h.0, all_once xs h.1)
      ]

-- each element ties with some element
all_among : {X : Type 0} {R : X → X → Ordering} (o : IsTotalOrder R) (xs : List X) → AllByRecursion (λ x. list_any (λ y. is_eq (R x y)) xs ≡ true) xs
all_among o [] = tt
all_among {R = R} o (x ∷ xs) = (
  ap (λ r. is_eq r || list_any (λ y. is_eq (R x y)) xs) (tied_itself o x),
  all_weaker (λ z. list_any (λ y. is_eq (R z y)) xs ≡ true) (λ z. list_any (λ y. is_eq (R z y)) (x ∷ xs) ≡ true)
      (λ z h. or_true (is_eq (R z x)) (list_any (λ y. is_eq (R z y)) xs) h) xs (all_among o xs),
)

-- ---- rows

abbrev kept : Selection Expr → InputRow → Bool
kept q row = meets q.filter row.env

module _ (keys : Environment → List Datum) where
  abbrev see : InputRow → InputRow
  see = viewed_row keys

  plain_reads : (w e : Expr) → ReadsAs keys w e → (env : Environment) → value_of w (viewed keys env) ≡ value_of e env
  plain_reads w e reads env = sym (plain_outside w (viewed keys env)) ∙ (reads None env ∙ plain_outside e env)

  -- an aggregate on what is seen of rows is the aggregate on the rows
  pub aggregate_seen : (group : Option (List Environment)) (agg : Agg) (f g : Environment → Value) → ((env : Environment) → f (viewed keys env) ≡ g env)
      → (env : Environment) → over_rows (viewed_group keys group) agg (Some f) (viewed keys env) ≡ over_rows group agg (Some g) env
  aggregate_seen None agg f g same env = refl
  aggregate_seen (Some rows) agg f g same env =
      ap (aggregate_of agg) (map-seen (viewed keys) (λ row. f (on_row (viewed keys env) row)) (λ row. g (on_row env row)) (λ row. same (on_row env row)) rows)

  elements_seen : (name : List ℕ) (row : InputRow) (place : ℕ) (ds : List Datum) → with_elements name (see row) place ds ≡ map see (with_elements name row place ds)
  elements_seen name row place [] = refl
  elements_seen name row place (d ∷ ds) = ap (λ rows. see (with_element name row place (value_at d)) ∷ rows) (elements_seen name row (suc place) ds)

  over_seen : (w u : Unnest Expr) → w.left ≡ u.left → w.name ≡ u.name → (row : InputRow) (ds : List Datum)
      → unnested_over w (see row) ds ≡ map see (unnested_over u row ds)
  over_seen w u left name row [] =
      ap₂ (λ b n. cond b (with_element n (see row) 0 Missing ∷ []) []) left name
      ∙ elim u.left as (λ b. cond b (with_element u.name (see row) 0 Missing ∷ []) [] ≡ map see (cond b (with_element u.name row 0 Missing ∷ []) [])) [
        | true ↦ refl
        | false ↦ refl
      ]
  over_seen w u left name row (d ∷ ds) = ap (λ n. with_elements n (see row) 0 (d ∷ ds)) name ∙ elements_seen u.name row 0 (d ∷ ds)

  unnest_seen : (w u : Unnest Expr) → UnnestReadsAs keys w u → (row : InputRow) → unnested w (see row) ≡ map see (unnested u row)
  unnest_seen w u r row =
      ap (λ v. unnested_over w (see row) (unwrap_or (array_in v) [])) (plain_reads w.over u.over r.array row.env)
      ∙ over_seen w u r.left r.name row (unwrap_or (array_in (value_of u.over row.env)) [])

  flat_seen : (w u : Unnest Expr) → UnnestReadsAs keys w u → (rows : List InputRow) → flat_map (unnested w) (map see rows) ≡ map see (flat_map (unnested u) rows)
  flat_seen w u r [] = refl
  flat_seen w u r (row ∷ rows) =
      ap₂ ◌++◌ (unnest_seen w u r row) (flat_seen w u r rows) ∙ sym (map-append see (unnested u row) (flat_map (unnested u) rows))

  unnests_seen : (ws us : List (Unnest Expr)) → AllZip (UnnestReadsAs keys) ws us → (rows : List InputRow) → unnested_by ws (map see rows) ≡ map see (unnested_by us rows)
  unnests_seen [] [] r rows = refl
  unnests_seen [] (u ∷ us) r rows = absurd r
  unnests_seen (w ∷ ws) [] r rows = absurd r
  unnests_seen (w ∷ ws) (u ∷ us) r rows = ap (unnested_by ws) (flat_seen w u r.0 rows) ∙ unnests_seen ws us r.1 (flat_map (unnested u) rows)

  names_same : (ws us : List (Unnest Expr)) → AllZip (UnnestReadsAs keys) ws us → unnest_names ws ≡ unnest_names us
  names_same [] [] r = refl
  names_same [] (u ∷ us) r = absurd r
  names_same (w ∷ ws) [] r = absurd r
  names_same (w ∷ ws) (u ∷ us) r = ap₂ ◌∷◌ r.0.name (names_same ws us r.1)

  raw_seen : (s t : Subject) → ((w e : Expr) → ReadsAs keys w e → value_on s w ≡ value_on t e) → (w e : Option Expr) (u v : Value)
      → u ≡ v → ReadsIfAny keys w e → option_map_or (value_on s) w u ≡ option_map_or (value_on t) e v
  raw_seen s t reads None None u v same r = same
  raw_seen s t reads None (Some e) u v same r = absurd r
  raw_seen s t reads (Some w) None u v same r = absurd r
  raw_seen s t reads (Some w) (Some e) u v same r = reads w e r

  -- a row or a group, as it is seen
  abbrev seen : Subject → Subject
  seen s = record { env = viewed keys s.env; group = viewed_group keys s.group; base = s.base }

  value_seen : (s : Subject) (w e : Expr) → ReadsAs keys w e → value_on (seen s) w ≡ value_on s e
  value_seen s w e reads = reads s.group s.env

  has_seen : (w e : Option Expr) → ReadsIfAny keys w e → (s : Subject) → has w (seen s) ≡ has e s
  has_seen None None r s = refl
  has_seen None (Some e) r s = absurd r
  has_seen (Some w) None r s = absurd r
  has_seen (Some w) (Some e) r s = ap is_true (value_seen s w e r)

  -- the name of an UNNEST is a variable
  variable : (scope : Scope) (name : List ℕ) → IsTrue (list_any (bytes_eq name) scope.bound) → name_in scope name ≡ expr.Var name
  variable scope name h = ap (λ b. if b then expr.Var name else (if bytes_eq name scope.alias then expr.Doc else expr.Field expr.Doc name)) h

  variable_value : (s : Subject) (name : List ℕ) → value_on s (expr.Var name) ≡ or_missing (under_name name s.env.bound)
  variable_value s name = ap (λ e. value_over s.group e s.env) (sym (expr.rolls-Var name)) ∙ value_over-roll s.group (Expr-F.Var name) s.env

  module _ (over q : Selection Expr) where
    abbrev names : List (List ℕ)
    names = unnest_names q.unnests

    term_seen : unnest_names over.unnests ≡ names → (s : Subject) (at : ℕ) (w t : Term Expr) → TermReadsAs names keys w t
        → pairs_of_term over (seen s) at w ≡ pairs_of_term q s at t
    term_seen same s at (Spread other) (Spread name) r =
        let at_over : IsTrue (list_any (bytes_eq name) (unnest_names over.unnests)) = subst (λ ns. IsTrue (list_any (bytes_eq name) ns)) (sym same) r.1 in
        ap (λ n. unwrap_or (object_in (value_on (seen s) (name_in (scope_of over) n))) []) r.0
        ∙ ap (λ v. unwrap_or (object_in v) [])
        (ap (value_on (seen s)) (variable (scope_of over) name at_over)
        ∙ (variable_value (seen s) name ∙ (sym (variable_value s name) ∙ sym (ap (value_on s) (variable (scope_of q) name r.1)))))
    term_seen same s at (One w w_name w_given) (One e e_name e_given) r =
        ap₂ (λ n v. (unwrap_or n (codes "$" ++ signed_decimal (pos at)), datum_of v) ∷ []) r.1 (value_seen s w e r.0)
    term_seen same s at All All r = absurd r
    term_seen same s at All (Spread name) r = absurd r
    term_seen same s at All (One e e_name e_given) r = absurd r
    term_seen same s at (Spread other) All r = absurd r
    term_seen same s at (Spread other) (One e e_name e_given) r = absurd r
    term_seen same s at (One w w_name w_given) All r = absurd r
    term_seen same s at (One w w_name w_given) (Spread name) r = absurd r

    terms_seen : unnest_names over.unnests ≡ names → (s : Subject) (at : ℕ) (ws ts : List (Term Expr)) → AllZip (TermReadsAs names keys) ws ts
        → pairs_of_terms over (seen s) at ws ≡ pairs_of_terms q s at ts
    terms_seen same s at [] [] r = refl
    terms_seen same s at [] (t ∷ ts) r = absurd r
    terms_seen same s at (w ∷ ws) [] r = absurd r
    terms_seen same s at (w ∷ ws) (t ∷ ts) r = ap₂ ◌++◌ (term_seen same s at w t r.0) (terms_seen same s (suc at) ws ts r.1)

    orders_seen : (s : Subject) (ws os : List (Order Expr)) → AllZip (λ o p. ReadsAs keys (order_key over o) (order_key q p) × (o.desc ≡ p.desc)) ws os
        → map (λ o. datum_of (value_on (seen s) (order_key over o))) ws ≡ map (λ o. datum_of (value_on s (order_key q o))) os
    orders_seen s [] [] r = refl
    orders_seen s [] (o ∷ os) r = absurd r
    orders_seen s (w ∷ ws) [] r = absurd r
    orders_seen s (w ∷ ws) (o ∷ os) r = ap₂ ◌∷◌ (ap datum_of (value_seen s (order_key over w) (order_key q o) r.0.0)) (orders_seen s ws os r.1)

    orders_cmp_same : (ws os : List (Order Expr)) → AllZip (λ o p. ReadsAs keys (order_key over o) (order_key q p) × (o.desc ≡ p.desc)) ws os
        → (xs ys : List Datum) → orders_cmp ws xs ys ≡ orders_cmp os xs ys
    orders_cmp_same [] [] r xs ys = refl
    orders_cmp_same [] (o ∷ os) r xs ys = absurd r
    orders_cmp_same (w ∷ ws) [] r xs ys = absurd r
    orders_cmp_same (w ∷ ws) (o ∷ os) r xs ys =
        ap₂ ordering_then (ap (λ b. if b then value_cmp (key_at ys 0) (key_at xs 0) else value_cmp (key_at xs 0) (key_at ys 0)) r.0.1)
        (orders_cmp_same ws os r.1 (drop 1 xs) (drop 1 ys))

    module _ (alike : ReadAlike keys over q) where
      placed_seen : (s : Subject) → placed_result over (seen s) ≡ placed_result q s
      placed_seen s =
          ap₂ (λ r os. let p : PlacedResult = record { result = r; order = os; base = s.base } in p)
          (raw_seen (seen s) s (value_seen s) over.raw q.raw (object_of (pairs_of_terms over (seen s) 1 over.terms)) (object_of (pairs_of_terms q s 1 q.terms))
          (ap object_of (terms_seen (names_same over.unnests q.unnests alike.unnests) s 1 over.terms q.terms alike.terms)) alike.raw)
          (orders_seen s over.orders q.orders alike.orders)

      placed_cmp_same : placed_cmp over.orders ≡ placed_cmp q.orders
      placed_cmp_same =
          fun_ext (λ (a : PlacedResult). fun_ext (λ (b : PlacedResult).
          ap (λ r. ordering_then r (base_cmp a.base b.base)) (orders_cmp_same over.orders q.orders alike.orders a.order b.order)))

      finished_same : (rs : List PlacedResult) → finished over rs ≡ finished q rs
      finished_same rs =
          ap₂ (λ (R : PlacedResult → PlacedResult → Ordering) b. cut over.limit over.offset (map (λ (r : PlacedResult). r.result) (sort_of R (cond b (first_of_each rs) rs))))
          placed_cmp_same alike.distinct
          ∙ ap₂ (λ l o. cut l o (map (λ (r : PlacedResult). r.result) (sort_of (placed_cmp q.orders) (cond q.distinct (first_of_each rs) rs)))) alike.limit alike.offset

      -- ---- rows of documents

      where_seen : (e : List ℕ × Value) → WhereAlike keys over q e → (row : InputRow) → IsRowOf e (reverse names) row → kept over (see row) ≡ kept q row
      where_seen e same row h = ap (λ env. meets over.filter (viewed keys env)) h.1 ∙ (same h.0 h.2 ∙ sym (ap (meets q.filter) h.1))

      one_document : (e : List ℕ × Value) → WhereAlike keys over q e → rows_from over (see (row_of_document e) ∷ []) ≡ map see (rows_of q (e ∷ []))
      one_document e same =
          ap (filter (kept over)) (unnests_seen over.unnests q.unnests alike.unnests (row_of_document e ∷ []))
          ∙ filter-seen see (kept over) (kept q) (unnested_by q.unnests (row_of_document e ∷ []))
          (all_weaker (IsRowOf e (reverse names)) (λ row. kept over (see row) ≡ kept q row) (where_seen e same) (unnested_by q.unnests (row_of_document e ∷ [])) (rows_are_of q e))

      pub rows_seen : (docs : List (List ℕ × Value)) → AllByRecursion (WhereAlike keys over q) docs
          → rows_from over (map (λ e. see (row_of_document e)) docs) ≡ map see (rows_of q docs)
      rows_seen [] h = rows_from-nil over ∙ sym (ap (map see) (rows_from-nil q))
      rows_seen (e ∷ docs) h =
          rows_from-append over (see (row_of_document e) ∷ []) (map (λ e. see (row_of_document e)) docs)
          ∙ (ap₂ ◌++◌ (one_document e h.0) (rows_seen docs h.1)
          ∙ (sym (map-append see (rows_of q (e ∷ [])) (rows_of q docs)) ∙ sym (ap (map see) (rows_of-cons q e docs))))

      -- ---- groups

      keys_seen : (ws es : List Expr) → AllZip (ReadsAs keys) ws es → (row : InputRow) → group_keys ws (see row) ≡ group_keys es row
      keys_seen [] [] r row = refl
      keys_seen [] (e ∷ es) r row = absurd r
      keys_seen (w ∷ ws) [] r row = absurd r
      keys_seen (w ∷ ws) (e ∷ es) r row = ap₂ ◌∷◌ (ap datum_of (plain_reads w e r.0 row.env)) (keys_seen ws es r.1 row)

      environments_seen : (rows : List InputRow) → map (λ (row : InputRow). row.env) (map see rows) ≡ map (viewed keys) (map (λ (row : InputRow). row.env) rows)
      environments_seen = map-exchanged see (λ (row : InputRow). row.env) (λ (row : InputRow). row.env) (viewed keys) (λ row. refl)

      abbrev on_first : List Datum → Environment → List Environment → Subject
      on_first base env rows = record { env = env; group = Some rows; base = base }

      -- a group that has rows
      group_seen : (base : List Datum) (ws rows : List InputRow) → ws ≡ map see rows → has_any rows ≡ true
          → group_whole (record { keys = base; rows = ws }) ≡ seen (group_whole (record { keys = base; rows = rows }))
      group_seen base ws [] is some = absurd cc
      group_seen base ws (row ∷ rows) is some =
          ap (λ (us : List InputRow). on_first base (first_of us) (map (λ (row : InputRow). row.env) us)) is
          ∙ ap (on_first base (viewed keys row.env)) (environments_seen (row ∷ rows))

      module _ (ws es : List Expr) (r : AllZip (ReadsAs keys) ws es) (rows : List InputRow) where
        abbrev in_group : List Datum → InputRow → Bool
        in_group ks row = is_eq (base_cmp ks (group_keys es row))

        group_rows_seen : (ks : List Datum) → filter (λ row. is_eq (base_cmp ks (group_keys ws row))) (map see rows) ≡ map see (filter (in_group ks) rows)
        group_rows_seen ks =
            filter-seen see (λ row. is_eq (base_cmp ks (group_keys ws row))) (in_group ks) rows
            (all_of (λ row. is_eq (base_cmp ks (group_keys ws (see row))) ≡ in_group ks row) (λ row. ap (λ js. is_eq (base_cmp ks js)) (keys_seen ws es r row)) rows)

        groups_by_seen : (kss : List (List Datum)) → AllByRecursion (λ ks. has_any (filter (in_group ks) rows) ≡ true) kss
            → map group_whole (map (group_of ws (map see rows)) kss) ≡ map seen (map group_whole (map (group_of es rows) kss))
        groups_by_seen [] h = refl
        groups_by_seen (ks ∷ kss) h =
            ap₂ ◌∷◌ (group_seen ks (filter (λ row. is_eq (base_cmp ks (group_keys ws row))) (map see rows)) (filter (in_group ks) rows) (group_rows_seen ks) h.0)
            (groups_by_seen kss h.1)

        abbrev all_keys : List (List Datum)
        all_keys = map (group_keys es) rows

        -- each group has rows
        none_empty : IsTotalOrder value_cmp → AllByRecursion (λ ks. has_any (filter (in_group ks) rows) ≡ true) (each_once base_cmp (sort_of base_cmp all_keys))
        none_empty o =
            all_weaker (λ ks. list_any (λ js. is_eq (base_cmp ks js)) all_keys ≡ true) (λ ks. has_any (filter (in_group ks) rows) ≡ true)
            (λ ks h. has_any-filter (in_group ks) rows ∙ (sym (list_any-map (group_keys es) (λ js. is_eq (base_cmp ks js)) rows) ∙ h))
            (each_once base_cmp (sort_of base_cmp all_keys))
            (all_once base_cmp (λ ks. list_any (λ js. is_eq (base_cmp ks js)) all_keys ≡ true) (sort_of base_cmp all_keys)
            (all_sorted base_cmp (λ ks. list_any (λ js. is_eq (base_cmp ks js)) all_keys ≡ true) all_keys (all_among (lists_total o) all_keys)))

        by_keys_seen : IsTotalOrder value_cmp
            → map group_whole (map (group_of ws (map see rows)) (each_once base_cmp (sort_of base_cmp (map (group_keys ws) (map see rows)))))
            ≡ map seen (map group_whole (map (group_of es rows) (each_once base_cmp (sort_of base_cmp all_keys))))
        by_keys_seen o =
            ap (λ kss. map group_whole (map (group_of ws (map see rows)) (each_once base_cmp (sort_of base_cmp kss)))) (map-seen see (group_keys ws) (group_keys es) (keys_seen ws es r) rows)
            ∙ groups_by_seen (each_once base_cmp (sort_of base_cmp all_keys)) (none_empty o)

      groups_seen : IsTotalOrder value_cmp → (ws es : List Expr) → AllZip (ReadsAs keys) ws es → (rows : List InputRow) → has_any rows ≡ true
          → map group_whole (groups_of ws (map see rows)) ≡ map seen (map group_whole (groups_of es rows))
      groups_seen o [] [] r rows some = ap (λ s. s ∷ []) (group_seen [] (map see rows) rows refl some)
      groups_seen o [] (e ∷ es) r rows some = absurd r
      groups_seen o (w ∷ ws) [] r rows some = absurd r
      groups_seen o (w ∷ ws) (e ∷ es) r rows some = by_keys_seen (w ∷ ws) (e ∷ es) r rows o

      subjects_seen : IsTotalOrder value_cmp → (rows : List InputRow) → has_any rows ≡ true → subjects_of over (map see rows) ≡ map seen (subjects_of q rows)
      subjects_seen o rows some =
          let groups : filter (has over.having) (map group_whole (groups_of over.groups (map see rows))) ≡ map seen (filter (has q.having) (map group_whole (groups_of q.groups rows))) =
          ap (filter (has over.having)) (groups_seen o over.groups q.groups alike.groups rows some)
          ∙ filter-seen seen (has over.having) (has q.having) (map group_whole (groups_of q.groups rows))
          (all_of (λ s. has over.having (seen s) ≡ has q.having s) (has_seen over.having q.having alike.having) (map group_whole (groups_of q.groups rows))) in
          let alone : map row_alone (map see rows) ≡ map seen (map row_alone rows) = map-exchanged see row_alone row_alone seen (λ row. refl) rows in
          ap (λ b. cond b (filter (has over.having) (map group_whole (groups_of over.groups (map see rows)))) (map row_alone (map see rows))) alike.grouped
          ∙ elim (is_grouped q) as (λ b. cond b (filter (has over.having) (map group_whole (groups_of over.groups (map see rows)))) (map row_alone (map see rows))
          ≡ map seen (cond b (filter (has q.having) (map group_whole (groups_of q.groups rows))) (map row_alone rows))) [
            | true ↦ groups
            | false ↦ alone
          ]

      pub results_seen : IsTotalOrder value_cmp → (rows : List InputRow) → has_any rows ≡ true → results_of_rows over (map see rows) ≡ results_of_rows q rows
      results_seen o rows some =
          ap (λ ss. finished over (map (placed_result over) ss)) (subjects_seen o rows some)
          ∙ (ap (finished over) (map-seen seen (placed_result over) (placed_result q) placed_seen (subjects_of q rows))
          ∙ finished_same (map (placed_result q) (subjects_of q rows)))

      -- ---- no rows

      no_subjects : (gs : List Expr) (h : Option Expr) (b : Bool) → (gs ≡ [] → b ≡ false) → cond b (filter (has h) (map group_whole (groups_of gs []))) (map row_alone []) ≡ []
      no_subjects [] h b never = ap (λ c. cond c (filter (has h) (map group_whole (groups_of [] []))) []) (never refl)
      no_subjects (g ∷ gs) h true never = refl
      no_subjects (g ∷ gs) h false never = refl

      none_either : (ws es : List Expr) → AllZip (ReadsAs keys) ws es → ws ≡ [] → es ≡ []
      none_either [] [] r is = refl
      none_either [] (e ∷ es) r is = absurd r
      none_either (w ∷ ws) [] r is = absurd r
      none_either (w ∷ ws) (e ∷ es) r is = absurd cc

      pub none_seen : (q.groups ≡ [] → is_grouped q ≡ false) → results_of_rows over [] ≡ results_of_rows q []
      none_seen never =
          ap (λ ss. finished over (map (placed_result over) ss))
          (no_subjects over.groups over.having (is_grouped over) (λ is. alike.grouped ∙ never (none_either over.groups q.groups alike.groups is)))
          ∙ (finished_same [] ∙ sym (ap (λ ss. finished q (map (placed_result q) ss)) (no_subjects q.groups q.having (is_grouped q) never)))
