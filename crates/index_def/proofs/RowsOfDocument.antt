-- The rows of a document: their ids and leading keys, their order, and that a DISTINCT key has each once.
use Rattle.std.proofs.Common.{◌≡◌, ℕ, zero, suc, ◌≤◌, Bool, true, false, cond, ◌||◌, List, [], ◌∷◌, length, map, IsTrue, refl, ap, ◌∙◌, arith}
use Rattle.std.specs.FinMap.{IsAntisymmetric}
use Rattle.std.specs.List.{All, filter, list_any}
use Rattle.std.specs.List.Sorted.{IsSorted}
use Rattle.std.specs.Ordering.{is_eq, is_gt}
use Rattle.std.specs.declared.cmp.Ordering.{Ordering}
use Rattle.n1ql_value.specs.declared.datum.Datum.{Datum}
use Rattle.n1ql_value.specs.declared.row.Row.{Row}
use Rattle.n1ql_value.specs.declared.value.Value.{Value}
use Rattle.n1ql_value.specs.Collation.{row_cmp}
use Rattle.n1ql_value.proofs.RowLaws.{row_cmp-total, row_cmp-exact}
use Rattle.sorted_lists.specs.SortedLists.{each_once, insert_sorted, sort_of}
use Rattle.sorted_lists.proofs.InOrder.{IsSorted-sort_of, length-sort_of}
use Rattle.sorted_lists.proofs.Orderings.{equal_of}
use Rattle.sorted_lists.proofs.Filters.{filter-sort_of}
use Rattle.n1ql_ast.specs.Evaluation.{on_document}
use Rattle.index_def.specs.declared.definition.IndexDef.{IndexDef}
use Rattle.index_def.specs.Keys.{has_leading, is_admitted, is_distinct, keys_of, once_if, rows_of_tuples, tuples_of}

all_first : {X : Type 0} (P : X → Type 0) (x : X) (xs : List X) → P x → All P xs → All P (x ∷ xs)
all_first P x xs h all zero d l = h
all_first P x xs h all (suc k) d l = all k d (omega arith)

all_behind : {X : Type 0} (P : X → Type 0) (x : X) (xs : List X) → All P (x ∷ xs) → All P xs
all_behind P x xs all k d l = all (suc k) d (omega arith)

all_none : {X : Type 0} (P : X → Type 0) → All P []
all_none P k d l = absurd (omega arith)

all_inserted : {X : Type 0} (P : X → Type 0) (R : X → X → Ordering) (x : X) (zs : List X) → P x → All P zs → All P (insert_sorted R x zs)
all_inserted P R x [] h all = all_first P x [] h all
all_inserted P R x (z ∷ zs) h all =
    elim (is_gt (R x z)) as (λ b. All P (cond b (z ∷ insert_sorted R x zs) (x ∷ z ∷ zs))) [
      | true ↦ all_first P z (insert_sorted R x zs) (all 0 z (omega arith)) (all_inserted P R x zs h (all_behind P z zs all))
      | false ↦ all_first P x (z ∷ zs) h all
    ]

all_sorted : {X : Type 0} (P : X → Type 0) (R : X → X → Ordering) (xs : List X) → All P xs → All P (sort_of R xs)
all_sorted P R [] all = all
all_sorted P R (x ∷ xs) all = all_inserted P R x (sort_of R xs) (all 0 x (omega arith)) (all_sorted P R xs (all_behind P x xs all))

all_once : {X : Type 0} (P : X → Type 0) (R : X → X → Ordering) (xs : List X) → All P xs → All P (each_once R xs)
all_once P R [] all = all
all_once P R (x ∷ xs) all =
    let rest = all_once P R xs (all_behind P x xs all) in
    elim (list_any (λ y. is_eq (R x y)) xs) as (λ b. All P (cond b (each_once R xs) (x ∷ each_once R xs))) [
      | true ↦ rest
      | false ↦ all_first P x (each_once R xs) (all 0 x (omega arith)) rest
    ]

all_once_if : (P : Row → Type 0) (distinct : Bool) (rows : List Row) → All P rows → All P (once_if distinct rows)
all_once_if P true rows all = all_once P row_cmp rows all
all_once_if P false rows all = all

-- what holds of the row of each tuple with a leading value holds of each row
all_rows : (P : Row → Type 0) (tuples : List (List Datum)) (id : List ℕ)
    → ((tuple : List Datum) → IsTrue (has_leading tuple) → let row : Row = record { keys = tuple; id = id } in P row) → All P (rows_of_tuples tuples id)
all_rows P [] id each = all_none P
all_rows P (tuple ∷ tuples) id each =
    elim (has_leading tuple) as (λ b. has_leading tuple ≡ b → All P (map (λ ds. let row : Row = record { keys = ds; id = id } in row) (cond b (tuple ∷ filter has_leading tuples) (filter has_leading tuples)))) [
      | true ↦ λ e. all_first P (record { keys = tuple; id = id }) (rows_of_tuples tuples id) (each tuple e) (all_rows P tuples id each)
      | false ↦ λ e. all_rows P tuples id each
    ] refl

pub all_keys : (P : Row → Type 0) (def : IndexDef) (id : List ℕ) (doc : Value)
    → ((tuple : List Datum) → IsTrue (has_leading tuple) → let row : Row = record { keys = tuple; id = id } in P row) → All P (keys_of def id doc)
all_keys P def id doc each =
    let env = on_document id doc [] in
    let rows = rows_of_tuples (tuples_of def.keys env) id in
    elim (is_admitted def env) as (λ b. All P (cond b (sort_of row_cmp (once_if (list_any is_distinct def.keys) rows)) [])) [
      | true ↦ all_sorted P row_cmp (once_if (list_any is_distinct def.keys) rows) (all_once_if P (list_any is_distinct def.keys) rows (all_rows P (tuples_of def.keys env) id each))
      | false ↦ all_none P
    ]

pub keys_in_order : (def : IndexDef) (id : List ℕ) (doc : Value) → IsSorted row_cmp (keys_of def id doc)
keys_in_order def id doc =
    let env = on_document id doc [] in
    let rows = once_if (list_any is_distinct def.keys) (rows_of_tuples (tuples_of def.keys env) id) in
    elim (is_admitted def env) as (λ b. IsSorted row_cmp (cond b (sort_of row_cmp rows) [])) [
      | true ↦ IsSorted-sort_of row_cmp-total rows
      | false ↦ λ k d low h. absurd (omega arith)
    ]

neither : (a b : Bool) → (a || b) ≡ false → (a ≡ false) × (b ≡ false)
neither true b e = absurd cc
neither false b e = (refl, e)

module _ {X : Type 0} (R : X → X → Ordering) (same : IsAntisymmetric R) where
  -- what isn't there isn't among each once
  none_once : (x : X) (xs : List X) → list_any (λ y. is_eq (R x y)) xs ≡ false → filter (λ y. is_eq (R x y)) (each_once R xs) ≡ []
  none_once x [] e = refl
  none_once x (y ∷ ys) e =
      let apart = neither (is_eq (R x y)) (list_any (λ z. is_eq (R x z)) ys) e in
      let rest = none_once x ys apart.1 in
      elim (list_any (λ z. is_eq (R y z)) ys) as (λ b. filter (λ z. is_eq (R x z)) (cond b (each_once R ys) (y ∷ each_once R ys)) ≡ []) [
        | true ↦ rest
        | false ↦ rw apart.0 rest
      ]

  once_at_most : (x : X) (xs : List X) → length (filter (λ y. is_eq (R x y)) (each_once R xs)) ≤ 1
  once_at_most x [] = omega arith
  once_at_most x (y ∷ ys) =
      elim (list_any (λ z. is_eq (R y z)) ys) as (λ b. list_any (λ z. is_eq (R y z)) ys ≡ b → length (filter (λ z. is_eq (R x z)) (cond b (each_once R ys) (y ∷ each_once R ys))) ≤ 1) [
        | true ↦ λ e. once_at_most x ys
        | false ↦ λ e. elim (is_eq (R x y)) as (λ b. is_eq (R x y) ≡ b → length (cond b (y ∷ filter (λ z. is_eq (R x z)) (each_once R ys)) (filter (λ z. is_eq (R x z)) (each_once R ys))) ≤ 1) [
          | true ↦ λ f.
              let is : x ≡ y = same x y (equal_of (R x y) f) in
              let none : filter (λ z. is_eq (R x z)) (each_once R ys) ≡ [] = none_once x ys (ap (λ w. list_any (λ z. is_eq (R w z)) ys) is ∙ e) in
              omega (arith, ap length none)
          | false ↦ λ f. once_at_most x ys
        ] refl
      ] refl

pub keys_once : (def : IndexDef) (id : List ℕ) (doc : Value) (row : Row) → list_any is_distinct def.keys ≡ true
    → length (filter (λ other. is_eq (row_cmp row other)) (keys_of def id doc)) ≤ 1
keys_once def id doc row distinct =
    let env = on_document id doc [] in
    let rows = rows_of_tuples (tuples_of def.keys env) id in
    let ties : Row → Bool = λ other. is_eq (row_cmp row other) in
    elim (is_admitted def env) as (λ b. length (filter ties (cond b (sort_of row_cmp (cond (list_any is_distinct def.keys) (each_once row_cmp rows) rows)) [])) ≤ 1) [
      | true ↦ rw distinct (omega (arith, once_at_most row_cmp row_cmp-exact row rows, ap length (filter-sort_of row_cmp-total ties (each_once row_cmp rows)), length-sort_of row_cmp (filter ties (each_once row_cmp rows))))
      | false ↦ omega arith
    ]
