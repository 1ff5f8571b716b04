-- The rows of an index in some spans, by the ids of their documents, are those of its documents one after the other.
use Rattle.std.proofs.Common.{◌≡◌, ℕ, ◌≤◌, Bool, true, false, ◌&&◌, List, [], ◌∷◌, ◌++◌, map, length, T, cond, refl, sym, ap, subst, ◌∙◌, arith, append_assoc}
use Rattle.std.specs.Prelude.{⊤}
use Rattle.std.specs.Cmp.{IsTotalOrder, then_total, on_total}
use Rattle.std.specs.Cmp.Lexicographic.{slice_cmp, nat_list_cmp_total}
use Rattle.std.specs.FinMap.{IsAntisymmetric}
use Rattle.std.specs.FinMap as finite
use Rattle.std.specs.FinMap.Entries.{below_all, is_sorted}
use Rattle.std.specs.List.{All, AllByRecursion, filter, flat_map, list_any}
use Rattle.std.specs.Ordering.{is_eq, is_gt, is_lt, nat_cmp, ordering_then}
use Rattle.std.specs.declared.cmp.Ordering.{Ordering}
use Rattle.std.specs.declared.cmp.Ordering.TheVariants.{Less, Equal, Greater}
use Rattle.std.proofs.lemmas.List.Elements.{recursion_from_All}
use Rattle.sorted_lists.specs.SortedLists.{insert_sorted, sort_of}
use Rattle.n1ql_value.specs.declared.range.Range.{Range}
use Rattle.n1ql_value.specs.declared.row.Row.{Row}
use Rattle.n1ql_value.specs.declared.value.Value.{Value}
use Rattle.n1ql_value.specs.Collation.{row_cmp}
use Rattle.n1ql_value.specs.Documents.{Documents}
use Rattle.n1ql_value.specs.Ranges.{some_span_holds}
use Rattle.index_def.specs.declared.definition.IndexDef.{IndexDef}
use Rattle.index_def.specs.Index.{index_of}
use Rattle.index_def.specs.Keys.{keys_of}
use Rattle.index_def.specs.Reasons.{is_array}
use Rattle.n1ql_covered.specs.ShownRows.{rows_in}
use Rattle.query_run.specs.inner.Runs.{by_id}

-- what the crates below say of rows and of lists in order
pub record RowLaws : Type 0 where
  pub total : IsTotalOrder row_cmp
  pub alike : (a b : Row) → row_cmp a b ≡ Equal → a ≡ b
  pub ids : (def : IndexDef) (id : List ℕ) (doc : Value) → All (λ (row : Row). row.id ≡ id) (keys_of def id doc)
  pub few : (def : IndexDef) (id : List ℕ) (doc : Value) → list_any is_array def.keys ≡ false → length (keys_of def id doc) ≤ 1
  pub filters : (R : Row → Row → Ordering) → IsTotalOrder R → (test : Row → Bool) (xs : List Row)
      → filter test (sort_of R xs) ≡ sort_of R (filter test xs)
  pub exchange : (R : Row → Row → Ordering) → IsTotalOrder R → IsAntisymmetric R → (x y : Row) (zs : List Row)
      → insert_sorted R x (insert_sorted R y zs) ≡ insert_sorted R y (insert_sorted R x zs)

abbrev id_of : Row → List ℕ
id_of row = row.id

-- ---- the order

pub by_id_total : IsTotalOrder row_cmp → IsTotalOrder by_id
by_id_total total = then_total (on_total id_of nat_list_cmp_total) total

second_tied : (o p : Ordering) → ordering_then o p ≡ Equal → p ≡ Equal
second_tied Less p h = absurd cc
second_tied Equal p h = h
second_tied Greater p h = absurd cc

module _ (laws : RowLaws) where
  by_id_same : IsAntisymmetric by_id
  by_id_same a b h = laws.alike a b (second_tied (slice_cmp nat_cmp a.id b.id) (row_cmp a b) h)

  -- ---- a sort of a sort

  inserted : (x : Row) (ys : List Row) → sort_of by_id (insert_sorted row_cmp x ys) ≡ insert_sorted by_id x (sort_of by_id ys)
  inserted x [] = refl
  inserted x (y ∷ ys) =
      elim (is_gt (row_cmp x y)) as (λ b. sort_of by_id (cond b (y ∷ insert_sorted row_cmp x ys) (x ∷ y ∷ ys)) ≡ insert_sorted by_id x (insert_sorted by_id y (sort_of by_id ys))) [
        | true ↦ ap (insert_sorted by_id y) (inserted x ys) ∙ laws.exchange by_id (by_id_total laws.total) by_id_same y x (sort_of by_id ys)
        | false ↦ refl
      ]

  resorted : (xs : List Row) → sort_of by_id (sort_of row_cmp xs) ≡ sort_of by_id xs
  resorted [] = refl
  resorted (x ∷ xs) = inserted x (sort_of row_cmp xs) ∙ ap (insert_sorted by_id x) (resorted xs)

-- ---- documents one after the other

filter_joined : (keep : Row → Bool) (xs ys : List Row) → filter keep (xs ++ ys) ≡ filter keep xs ++ filter keep ys
filter_joined keep [] ys = refl
filter_joined keep (x ∷ xs) ys =
    elim (keep x) as (λ b. cond b (x ∷ filter keep (xs ++ ys)) (filter keep (xs ++ ys)) ≡ cond b (x ∷ filter keep xs) (filter keep xs) ++ filter keep ys) [
      | true ↦ ap (λ zs. x ∷ zs) (filter_joined keep xs ys)
      | false ↦ filter_joined keep xs ys
    ]

filter_flattened : {E : Type 0} (keep : Row → Bool) (rows : E → List Row) (es : List E)
    → filter keep (flat_map rows es) ≡ flat_map (λ e. filter keep (rows e)) es
filter_flattened keep rows [] = refl
filter_flattened keep rows (e ∷ es) = filter_joined keep (rows e) (flat_map rows es) ∙ ap (λ zs. filter keep (rows e) ++ zs) (filter_flattened keep rows es)

-- at most one row, of this id
abbrev Few : List ℕ → List Row → Type 0
Few id [] = ⊤
Few id (r ∷ []) = r.id ≡ id
Few id (r ∷ s ∷ rs) = ⊥

few_kept : (keep : Row → Bool) (id : List ℕ) (xs : List Row) → length xs ≤ 1 → AllByRecursion (λ (row : Row). row.id ≡ id) xs → Few id (filter keep xs)
few_kept keep id [] few ids = tt
few_kept keep id (x ∷ []) few ids = elim (keep x) as (λ b. Few id (cond b (x ∷ []) [])) [ true ↦ ids.0 | false ↦ tt ]
few_kept keep id (x ∷ y ∷ xs) few ids = absurd (omega arith)

-- the first row, if there is one, is of a greater id
abbrev Heads : List ℕ → List Row → Type 0
Heads id [] = ⊤
Heads id (r ∷ rs) = T (is_lt (slice_cmp nat_cmp id r.id))

head_first : (k id : List ℕ) (rs rest : List Row) → Few id rs → T (is_lt (slice_cmp nat_cmp k id)) → Heads k rest → Heads k (rs ++ rest)
head_first k id [] rest few below heads = heads
head_first k id (r ∷ []) rest few below heads = subst (λ i. T (is_lt (slice_cmp nat_cmp k i))) (sym few) below
head_first k id (r ∷ s ∷ rs) rest few below heads = absurd few

not_greater : (o p : Ordering) → T (is_lt o) → is_gt (ordering_then o p) ≡ false
not_greater Less p h = refl
not_greater Equal p h = absurd h
not_greater Greater p h = absurd h

stands_first : (r : Row) (rest : List Row) → Heads r.id rest → insert_sorted by_id r rest ≡ r ∷ rest
stands_first r [] h = refl
stands_first r (s ∷ rest) h = ap (λ b. cond b (s ∷ insert_sorted by_id r rest) (r ∷ s ∷ rest)) (not_greater (slice_cmp nat_cmp r.id s.id) (row_cmp r s) h)

one_more : (id : List ℕ) (rs rest : List Row) → Few id rs → Heads id rest → sort_of by_id rest ≡ rest → sort_of by_id (rs ++ rest) ≡ rs ++ rest
one_more id [] rest few heads sorted = sorted
one_more id (r ∷ []) rest few heads sorted =
    ap (insert_sorted by_id r) sorted ∙ stands_first r rest (subst (λ i. Heads i rest) (sym few) heads)
one_more id (r ∷ s ∷ rs) rest few heads sorted = absurd few

both_T : (a b : Bool) → T (a && b) → T a × T b
both_T true b h = (tt, h)
both_T false b h = absurd h

module _ (rows : List ℕ × Value → List Row) (few : (e : List ℕ × Value) → Few e.0 (rows e)) where
  heads : (k : List ℕ) (es : List (List ℕ × Value)) → T (below_all (slice_cmp nat_cmp) k es) → Heads k (flat_map rows es)
  heads k [] h = tt
  heads k (e ∷ es) h =
      let two = both_T (is_lt (slice_cmp nat_cmp k e.0)) (below_all (slice_cmp nat_cmp) k es) h in
      head_first k e.0 (rows e) (flat_map rows es) (few e) two.0 (heads k es two.1)

  in_order : (es : List (List ℕ × Value)) → T (is_sorted (slice_cmp nat_cmp) es) → sort_of by_id (flat_map rows es) ≡ flat_map rows es
  in_order [] h = refl
  in_order (e ∷ es) h =
      let two = both_T (below_all (slice_cmp nat_cmp) e.0 es) (is_sorted (slice_cmp nat_cmp) es) h in
      one_more e.0 (rows e) (flat_map rows es) (few e) (heads e.0 es two.0) (in_order es two.1)

-- ---- the rows of an index

pub rows_by_documents : RowLaws → (def : IndexDef) → list_any is_array def.keys ≡ false → (spans : List (List Range)) (docs : Documents)
    → sort_of by_id (filter (λ (row : Row). some_span_holds spans row.keys) (index_of def docs)) ≡ rows_in spans def (finite.entries docs)
rows_by_documents laws def plain spans docs =
    let held : Row → Bool = λ row. some_span_holds spans row.keys in
    let entries : List (List ℕ × Value) = finite.entries docs in
    let all : List Row = flat_map (λ e. keys_of def e.0 e.1) entries in
    let few : (e : List ℕ × Value) → Few e.0 (filter held (keys_of def e.0 e.1)) = λ e.
    few_kept held e.0 (keys_of def e.0 e.1) (laws.few def e.0 e.1 plain)
    (recursion_from_All (λ (row : Row). row.id ≡ e.0) (keys_of def e.0 e.1) (laws.ids def e.0 e.1)) in
    ap (sort_of by_id) (laws.filters row_cmp laws.total held all)
    ∙ (resorted laws (filter held all)
    ∙ (ap (sort_of by_id) (filter_flattened held (λ e. keys_of def e.0 e.1) entries)
    ∙ in_order (λ e. filter held (keys_of def e.0 e.1)) few entries (finite.entries_sorted docs)))
