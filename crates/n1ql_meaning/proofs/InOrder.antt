-- Rows of documents that stand by their ids stand by their bases; so do groups, and results stay so where there is no ORDER BY.
use Rattle.std.proofs.Common.{◌≡◌, ℕ, suc, pos, ◌<◌, Bool, true, false, ◌||◌, List, [], ◌∷◌, ◌++◌, map, cond, length, filter, ltb, lt-ltb, unwrap_or, ◌+◌, length-append, refl, sym, ap, ap₂, ◌∙◌, arith}
use Rattle.std.specs.Cmp.{IsTotalOrder}
use Rattle.std.specs.Cmp.Lexicographic.{slice_cmp}
use Rattle.std.specs.List.{AllByRecursion, flat_map, list_any}
use Rattle.std.specs.List.Sorted.{IsStrictlySortedBy}
use Rattle.std.specs.Ordering.{int_cmp, is_eq, is_gt, nat_cmp, ordering_reverse, ordering_then}
use Rattle.std.specs.declared.cmp.Ordering.{Ordering}
use Rattle.std.specs.declared.cmp.Ordering.TheVariants.{Less, Equal, Greater}
use Rattle.std.proofs.lemmas.Cmp.{lists_total, tied_itself, upto}
use Rattle.n1ql_value.specs.declared.datum.Datum.{Datum, out-Datum}
use Rattle.n1ql_value.specs.declared.datum.Datum.TheVariants as datum
use Rattle.n1ql_value.specs.declared.value.Value.{Value}
use Rattle.n1ql_value.specs.declared.value.Value.TheVariants.{Missing}
use Rattle.n1ql_value.specs.Collation.{layer_cmp, value_cmp}
use Rattle.n1ql_value.specs.Datum.{value_of as value_at}
use Rattle.n1ql_value.specs.Kinds.{array_in}
use Rattle.sorted_lists.specs.SortedLists.{each_once, insert_sorted, sort_of}
use Rattle.n1ql_ast.specs.declared.expr.Expr.{Expr}
use Rattle.n1ql_ast.specs.declared.selection.Selection.{Selection}
use Rattle.n1ql_ast.specs.declared.unnest.Unnest.{Unnest}
use Rattle.n1ql_ast.specs.Evaluation.{value_of}
use Rattle.n1ql_meaning.specs.Finish.{in_order, placed_cmp}
use Rattle.n1ql_meaning.specs.Groups.{group_keys, group_of, groups_of, is_grouped}
use Rattle.n1ql_meaning.specs.Results.{PlacedResult, Subject, group_whole, has, row_alone, subjects_of}
use Rattle.n1ql_meaning.specs.Rows.{InputRow, base_cmp, meets, row_of_document, rows_of, unnested, unnested_by, unnested_over, with_element, with_elements}

-- ---- lists of which each element is below all behind it

module _ {X : Type 0} (R : X → X → Ordering) where
  abbrev AllAbove : X → List X → Type 0
  AllAbove x ys = AllByRecursion (λ y. R x y ≡ Less) ys

  abbrev Standing : List X → Type 0
  Standing [] = Unit {0}
  Standing (x ∷ xs) = AllAbove x xs × Standing xs

  strictly : (xs : List X) → Standing xs → IsStrictlySortedBy R xs
  unfolding IsStrictlySortedBy
  strictly [] h = tt
  strictly (x ∷ xs) h = (h.0, strictly xs h.1)

  standing : (xs : List X) → IsStrictlySortedBy R xs → Standing xs
  unfolding IsStrictlySortedBy
  standing [] h = tt
  standing (x ∷ xs) h = (h.0, standing xs h.1)

  all-filter : (P : X → Type 0) (so : X → Bool) (xs : List X) → AllByRecursion P xs → AllByRecursion P (filter so xs)
  all-filter P so [] h = tt
  all-filter P so (x ∷ xs) h =
      elim (so x) as (λ b. AllByRecursion P (cond b (x ∷ filter so xs) (filter so xs))) [ true ↦ (h.0, all-filter P so xs h.1) | false ↦ all-filter P so xs h.1 ]

  standing-filter : (so : X → Bool) (xs : List X) → Standing xs → Standing (filter so xs)
  standing-filter so [] h = tt
  standing-filter so (x ∷ xs) h =
      elim (so x) as (λ b. Standing (cond b (x ∷ filter so xs) (filter so xs))) [
        | true ↦ (all-filter (λ y. R x y ≡ Less) so xs h.0, standing-filter so xs h.1)
        | false ↦ standing-filter so xs h.1
      ]

  all-append : (P : X → Type 0) (xs ys : List X) → AllByRecursion P xs → AllByRecursion P ys → AllByRecursion P (xs ++ ys)
  all-append P [] ys h k = k
  all-append P (x ∷ xs) ys h k = (h.0, all-append P xs ys h.1 k)

  standing-append : (xs ys : List X) → Standing xs → Standing ys → AllByRecursion (λ x. AllAbove x ys) xs → Standing (xs ++ ys)
  standing-append [] ys h k across = k
  standing-append (x ∷ xs) ys h k across = (all-append (λ y. R x y ≡ Less) xs ys h.0 across.0, standing-append xs ys h.1 k across.1)

  -- a list that stands so is its own sort
  own_sort : (xs : List X) → Standing xs → sort_of R xs ≡ xs
  own_sort [] h = refl
  own_sort (x ∷ []) h = refl
  own_sort (x ∷ y ∷ ys) h =
      ap (insert_sorted R x) (own_sort (y ∷ ys) h.1) ∙ ap (λ r. cond (is_gt r) (y ∷ insert_sorted R x ys) (x ∷ y ∷ ys)) h.0.0

  module _ (o : IsTotalOrder R) where
    -- nothing behind an element is below it
    abbrev NoneBelow : X → List X → Type 0
    NoneBelow x ys = AllByRecursion (λ y. is_gt (R x y) ≡ false) ys

    abbrev Sorted : List X → Type 0
    Sorted [] = Unit {0}
    Sorted (x ∷ xs) = NoneBelow x xs × Sorted xs

    not_above : (r : Ordering) → is_gt r ≡ true → r ≡ Greater
    not_above Less h = absurd cc
    not_above Equal h = absurd cc
    not_above Greater h = refl

    turned : (x y : X) → is_gt (R x y) ≡ true → is_gt (R y x) ≡ false
    turned x y h = ap is_gt (o.antisymm y x ∙ ap ordering_reverse (not_above (R x y) h))

    further : (x y : X) → is_gt (R x y) ≡ false → (ys : List X) → NoneBelow y ys → NoneBelow x ys
    further x y h [] k = tt
    further x y h (z ∷ ys) k = (upto o x y z h k.0, further x y h ys k.1)

    none_below-insert : (z x : X) → is_gt (R z x) ≡ false → (ys : List X) → NoneBelow z ys → NoneBelow z (insert_sorted R x ys)
    none_below-insert z x h [] k = (h, tt)
    none_below-insert z x h (y ∷ ys) k =
        elim (is_gt (R x y)) as (λ b. NoneBelow z (cond b (y ∷ insert_sorted R x ys) (x ∷ y ∷ ys))) [
          | true ↦ (k.0, none_below-insert z x h ys k.1)
          | false ↦ (h, k)
        ]

    sorted-insert : (x : X) (ys : List X) → Sorted ys → Sorted (insert_sorted R x ys)
    sorted-insert x [] h = (tt, tt)
    sorted-insert x (y ∷ ys) h =
        elim (is_gt (R x y)) as (λ b. is_gt (R x y) ≡ b → Sorted (cond b (y ∷ insert_sorted R x ys) (x ∷ y ∷ ys))) [
          | true ↦ λ is. (none_below-insert y x (turned x y is) ys h.0, sorted-insert x ys h.1)
          | false ↦ λ is. ((is, further x y is ys h.0), h)
        ] refl

    sorted-sort : (xs : List X) → Sorted (sort_of R xs)
    sorted-sort [] = tt
    sorted-sort (x ∷ xs) = sorted-insert x (sort_of R xs) (sorted-sort xs)

    only_less : (r : Ordering) → is_gt r ≡ false → is_eq r ≡ false → r ≡ Less
    only_less Less h k = refl
    only_less Equal h k = absurd cc
    only_less Greater h k = absurd cc

    or_parts : (a b : Bool) → (a || b) ≡ false → (a ≡ false) × (b ≡ false)
    or_parts true b h = absurd cc
    or_parts false b h = (refl, h)

    strict : (x : X) (ys : List X) → NoneBelow x ys → list_any (λ y. is_eq (R x y)) ys ≡ false → AllAbove x ys
    strict x [] h k = tt
    strict x (y ∷ ys) h k =
        let two = or_parts (is_eq (R x y)) (list_any (λ z. is_eq (R x z)) ys) k in (only_less (R x y) h.0 two.0, strict x ys h.1 two.1)

    all-once : (P : X → Type 0) (xs : List X) → AllByRecursion P xs → AllByRecursion P (each_once R xs)
    all-once P [] h = tt
    all-once P (x ∷ xs) h =
        elim (list_any (λ y. is_eq (R x y)) xs) as (λ b. AllByRecursion P (cond b (each_once R xs) (x ∷ each_once R xs))) [
          | true ↦ all-once P xs h.1
          | false ↦ (h.0, all-once P xs h.1)
        ]

    standing-once : (xs : List X) → Sorted xs → Standing (each_once R xs)
    standing-once [] h = tt
    standing-once (x ∷ xs) h =
        elim (list_any (λ y. is_eq (R x y)) xs) as (λ b. list_any (λ y. is_eq (R x y)) xs ≡ b → Standing (cond b (each_once R xs) (x ∷ each_once R xs))) [
          | true ↦ λ is. standing-once xs h.1
          | false ↦ λ is. (all-once (λ y. R x y ≡ Less) xs (strict x xs h.0 is), standing-once xs h.1)
        ] refl

-- a list stands by a part of its elements as the list of these parts stands
module _ {X Y : Type 0} (R : Y → Y → Ordering) (part : X → Y) where
  above-map : (x : X) (xs : List X) → AllAbove R (part x) (map part xs) → AllAbove (λ a b. R (part a) (part b)) x xs
  above-map x [] h = tt
  above-map x (y ∷ xs) h = (h.0, above-map x xs h.1)

  standing-unmap : (xs : List X) → Standing R (map part xs) → Standing (λ a b. R (part a) (part b)) xs
  standing-unmap [] h = tt
  standing-unmap (x ∷ xs) h = (above-map x xs h.0, standing-unmap xs h.1)

  above-part : (x : X) (xs : List X) → AllAbove (λ a b. R (part a) (part b)) x xs → AllAbove R (part x) (map part xs)
  above-part x [] h = tt
  above-part x (y ∷ xs) h = (h.0, above-part x xs h.1)

  standing-map : (xs : List X) → Standing (λ a b. R (part a) (part b)) xs → Standing R (map part xs)
  standing-map [] h = tt
  standing-map (x ∷ xs) h = (above-part x xs h.0, standing-map xs h.1)

-- ---- bases

then_equal : (r : Ordering) → ordering_then r Equal ≡ r
then_equal Less = refl
then_equal Equal = refl
then_equal Greater = refl

int_less : (i j : ℕ) → i < j → int_cmp (pos i) (pos j) ≡ Less
int_less i j l = ap (λ b. cond b Less (cond (ltb j i) Greater Equal)) (lt-ltb i j l)

longer_less : (xs ys : List Datum) (x y : Datum) → length xs ≡ length ys → base_cmp xs ys ≡ Less → base_cmp (xs ++ x ∷ []) (ys ++ y ∷ []) ≡ Less
longer_less [] [] x y e h = absurd cc
longer_less [] (b ∷ ys) x y e h = absurd (omega (arith, e))
longer_less (a ∷ xs) [] x y e h = absurd (omega (arith, e))
longer_less (a ∷ xs) (b ∷ ys) x y e h =
    elim (value_cmp a b) as (λ r. ordering_then r (base_cmp xs ys) ≡ Less → ordering_then r (base_cmp (xs ++ x ∷ []) (ys ++ y ∷ [])) ≡ Less) [
      | Less ↦ λ k. refl
      | Equal ↦ λ k. longer_less xs ys x y (omega (arith, e)) k
      | Greater ↦ λ k. absurd cc
    ] h

module _ (o : IsTotalOrder value_cmp) (by_cases : (a b : Datum) → value_cmp a b ≡ layer_cmp value_cmp (out-Datum a) (out-Datum b)) where
  text_order : (s t : List ℕ) → value_cmp (datum.Text s) (datum.Text t) ≡ slice_cmp nat_cmp s t
  text_order s t =
      by_cases (datum.Text s) (datum.Text t) ∙ (ap₂ (layer_cmp value_cmp) (datum.outs-Text s) (datum.outs-Text t) ∙ then_equal (slice_cmp nat_cmp s t))

  place_order : (i j : ℕ) → i < j → value_cmp (datum.Int (pos i)) (datum.Int (pos j)) ≡ Less
  place_order i j l =
      by_cases (datum.Int (pos i)) (datum.Int (pos j))
      ∙ (ap₂ (layer_cmp value_cmp) (datum.outs-Int (pos i)) (datum.outs-Int (pos j)) ∙ ap (λ r. ordering_then r Equal) (int_less i j l))

  next_place : (xs : List Datum) (x y : Datum) → value_cmp x y ≡ Less → base_cmp (xs ++ x ∷ []) (xs ++ y ∷ []) ≡ Less
  next_place [] x y h = ap (λ r. ordering_then r Equal) h
  next_place (a ∷ xs) x y h = ap (λ r. ordering_then r (base_cmp (xs ++ x ∷ []) (xs ++ y ∷ []))) (tied_itself o a) ∙ next_place xs x y h

  -- ---- rows

  abbrev row_cmp : InputRow → InputRow → Ordering
  row_cmp a b = base_cmp a.base b.base

  elements_above : (name : List ℕ) (row : InputRow) (v : Value) (at place : ℕ) (ds : List Datum) → at < place
      → AllAbove row_cmp (with_element name row at v) (with_elements name row place ds)
  elements_above name row v at place [] l = tt
  elements_above name row v at place (d ∷ ds) l =
      (next_place row.base (datum.Int (pos at)) (datum.Int (pos place)) (place_order at place l), elements_above name row v at (suc place) ds (omega (arith, l)))

  elements_standing : (name : List ℕ) (row : InputRow) (place : ℕ) (ds : List Datum) → Standing row_cmp (with_elements name row place ds)
  elements_standing name row place [] = tt
  elements_standing name row place (d ∷ ds) =
      (elements_above name row (value_at d) place (suc place) ds (omega arith), elements_standing name row (suc place) ds)

  over_standing : (u : Unnest Expr) (row : InputRow) (ds : List Datum) → Standing row_cmp (unnested_over u row ds)
  over_standing u row [] = elim u.left as (λ b. Standing row_cmp (cond b (with_element u.name row 0 Missing ∷ []) [])) [ true ↦ (tt, tt) | false ↦ tt ]
  over_standing u row (d ∷ ds) = elements_standing u.name row 0 (d ∷ ds)

  -- its base is the row's with one more place
  abbrev IsLonger : InputRow → InputRow → Type 0
  IsLonger row s = (x : Datum) × (s.base ≡ row.base ++ x ∷ [])

  elements_longer : (name : List ℕ) (row : InputRow) (place : ℕ) (ds : List Datum) → AllByRecursion (IsLonger row) (with_elements name row place ds)
  elements_longer name row place [] = tt
  elements_longer name row place (d ∷ ds) = ((datum.Int (pos place), refl), elements_longer name row (suc place) ds)

  over_longer : (u : Unnest Expr) (row : InputRow) (ds : List Datum) → AllByRecursion (IsLonger row) (unnested_over u row ds)
  over_longer u row [] =
      elim u.left as (λ b. AllByRecursion (IsLonger row) (cond b (with_element u.name row 0 Missing ∷ []) [])) [ true ↦ ((datum.Int (pos 0), refl), tt) | false ↦ tt ]
  over_longer u row (d ∷ ds) = elements_longer u.name row 0 (d ∷ ds)

  abbrev elements_of : Unnest Expr → InputRow → List Datum
  elements_of u row = unwrap_or (array_in (value_of u.over row.env)) []

  -- what rows of the same length that are above a row give is above what the row gives
  across_one : (n : ℕ) (row : InputRow) → length row.base ≡ n → (s : InputRow) → IsLonger row s → (other : InputRow) → length other.base ≡ n → row_cmp row other ≡ Less
      → (ts : List InputRow) → AllByRecursion (IsLonger other) ts → AllAbove row_cmp s ts
  across_one n row e s long other f h [] k = tt
  across_one n row e s long other f h (t ∷ ts) k =
      (ap₂ base_cmp long.1 k.0.1 ∙ longer_less row.base other.base long.0 k.0.0 (e ∙ sym f) h, across_one n row e s long other f h ts k.1)

  across : (n : ℕ) (u : Unnest Expr) (row : InputRow) → length row.base ≡ n → (s : InputRow) → IsLonger row s → (rows : List InputRow)
      → AllByRecursion (λ (r : InputRow). length r.base ≡ n) rows → AllAbove row_cmp row rows → AllAbove row_cmp s (flat_map (unnested u) rows)
  across n u row e s long [] fs h = tt
  across n u row e s long (other ∷ rows) fs h =
      all-append row_cmp (λ t. row_cmp s t ≡ Less) (unnested u other) (flat_map (unnested u) rows)
      (across_one n row e s long other fs.0 h.0 (unnested u other) (over_longer u other (elements_of u other)))
      (across n u row e s long rows fs.1 h.1)

  across_all : (n : ℕ) (u : Unnest Expr) (row : InputRow) → length row.base ≡ n → (ss : List InputRow) → AllByRecursion (IsLonger row) ss → (rows : List InputRow)
      → AllByRecursion (λ (r : InputRow). length r.base ≡ n) rows → AllAbove row_cmp row rows → AllByRecursion (λ s. AllAbove row_cmp s (flat_map (unnested u) rows)) ss
  across_all n u row e [] long rows fs h = tt
  across_all n u row e (s ∷ ss) long rows fs h = (across n u row e s long.0 rows fs h, across_all n u row e ss long.1 rows fs h)

  unnested_standing : (n : ℕ) (u : Unnest Expr) (rows : List InputRow) → AllByRecursion (λ (r : InputRow). length r.base ≡ n) rows → Standing row_cmp rows
      → Standing row_cmp (flat_map (unnested u) rows)
  unnested_standing n u [] es h = tt
  unnested_standing n u (row ∷ rows) es h =
      standing-append row_cmp (unnested u row) (flat_map (unnested u) rows) (over_standing u row (elements_of u row)) (unnested_standing n u rows es.1 h.1)
      (across_all n u row es.0 (unnested u row) (over_longer u row (elements_of u row)) rows es.1 h.0)

  longer_long : (n : ℕ) (row : InputRow) → length row.base ≡ n → (ss : List InputRow) → AllByRecursion (IsLonger row) ss → AllByRecursion (λ (r : InputRow). length r.base ≡ suc n) ss
  longer_long n row e [] h = tt
  longer_long n row e (s ∷ ss) h =
      let long : length (row.base ++ h.0.0 ∷ []) ≡ length row.base + 1 = length-append row.base (h.0.0 ∷ []) in
      (ap length h.0.1 ∙ omega (arith, long, e), longer_long n row e ss h.1)

  unnested_long : (n : ℕ) (u : Unnest Expr) (rows : List InputRow) → AllByRecursion (λ (r : InputRow). length r.base ≡ n) rows
      → AllByRecursion (λ (r : InputRow). length r.base ≡ suc n) (flat_map (unnested u) rows)
  unnested_long n u [] es = tt
  unnested_long n u (row ∷ rows) es =
      all-append row_cmp (λ (r : InputRow). length r.base ≡ suc n) (unnested u row) (flat_map (unnested u) rows)
      (longer_long n row es.0 (unnested u row) (over_longer u row (elements_of u row))) (unnested_long n u rows es.1)

  unnested_by_standing : (n : ℕ) (us : List (Unnest Expr)) (rows : List InputRow) → AllByRecursion (λ (r : InputRow). length r.base ≡ n) rows → Standing row_cmp rows
      → Standing row_cmp (unnested_by us rows)
  unnested_by_standing n [] rows es h = h
  unnested_by_standing n (u ∷ us) rows es h =
      unnested_by_standing (suc n) us (flat_map (unnested u) rows) (unnested_long n u rows es) (unnested_standing n u rows es h)

  abbrev id_cmp : List ℕ × Value → List ℕ × Value → Ordering
  id_cmp a b = slice_cmp nat_cmp a.0 b.0

  documents_above : (e : List ℕ × Value) (docs : List (List ℕ × Value)) → AllAbove id_cmp e docs → AllAbove row_cmp (row_of_document e) (map row_of_document docs)
  documents_above e [] h = tt
  documents_above e (f ∷ docs) h = (ap (λ r. ordering_then r Equal) (text_order e.0 f.0 ∙ h.0), documents_above e docs h.1)

  documents_standing : (docs : List (List ℕ × Value)) → Standing id_cmp docs → Standing row_cmp (map row_of_document docs)
  documents_standing [] h = tt
  documents_standing (e ∷ docs) h = (documents_above e docs h.0, documents_standing docs h.1)

  one_long : (docs : List (List ℕ × Value)) → AllByRecursion (λ (r : InputRow). length r.base ≡ 1) (map row_of_document docs)
  one_long [] = tt
  one_long (e ∷ docs) = (refl, one_long docs)

  pub rows_in_order : (q : Selection Expr) (docs : List (List ℕ × Value)) → IsStrictlySortedBy (slice_cmp nat_cmp) (map (λ (e : List ℕ × Value). e.0) docs)
      → IsStrictlySortedBy base_cmp (map (λ (row : InputRow). row.base) (rows_of q docs))
  rows_in_order q docs h =
      let ids : Standing (slice_cmp nat_cmp) (map (λ (e : List ℕ × Value). e.0) docs) = standing (slice_cmp nat_cmp) (map (λ (e : List ℕ × Value). e.0) docs) h in
      let all : Standing row_cmp (unnested_by q.unnests (map row_of_document docs)) =
      unnested_by_standing 1 q.unnests (map row_of_document docs) (one_long docs) (documents_standing docs (standing-unmap (slice_cmp nat_cmp) (λ (e : List ℕ × Value). e.0) docs ids)) in
      strictly base_cmp (map (λ (row : InputRow). row.base) (rows_of q docs))
      (standing-map base_cmp (λ (row : InputRow). row.base) (rows_of q docs) (standing-filter row_cmp (λ row. meets q.filter row.env) (unnested_by q.unnests (map row_of_document docs)) all))

  -- ---- groups

  abbrev subject_cmp : Subject → Subject → Ordering
  subject_cmp a b = base_cmp a.base b.base

  groups_above : (es : List Expr) (rows : List InputRow) (ks : List Datum) (kss : List (List Datum)) → AllAbove base_cmp ks kss
      → AllAbove subject_cmp (group_whole (group_of es rows ks)) (map group_whole (map (group_of es rows) kss))
  groups_above es rows ks [] h = tt
  groups_above es rows ks (js ∷ kss) h = (h.0, groups_above es rows ks kss h.1)

  groups_by_standing : (es : List Expr) (rows : List InputRow) (kss : List (List Datum)) → Standing base_cmp kss → Standing subject_cmp (map group_whole (map (group_of es rows) kss))
  groups_by_standing es rows [] h = tt
  groups_by_standing es rows (ks ∷ kss) h = (groups_above es rows ks kss h.0, groups_by_standing es rows kss h.1)

  groups_standing : (es : List Expr) (rows : List InputRow) → Standing subject_cmp (map group_whole (groups_of es rows))
  groups_standing [] rows = (tt, tt)
  groups_standing (e ∷ es) rows =
      groups_by_standing (e ∷ es) rows (each_once base_cmp (sort_of base_cmp (map (group_keys (e ∷ es)) rows)))
      (standing-once base_cmp (lists_total o) (sort_of base_cmp (map (group_keys (e ∷ es)) rows)) (sorted-sort base_cmp (lists_total o) (map (group_keys (e ∷ es)) rows)))

  alone_above : (row : InputRow) (rows : List InputRow) → AllAbove row_cmp row rows → AllAbove subject_cmp (row_alone row) (map row_alone rows)
  alone_above row [] h = tt
  alone_above row (r ∷ rows) h = (h.0, alone_above row rows h.1)

  alone_standing : (rows : List InputRow) → Standing row_cmp rows → Standing subject_cmp (map row_alone rows)
  alone_standing [] h = tt
  alone_standing (row ∷ rows) h = (alone_above row rows h.0, alone_standing rows h.1)

  pub subjects_in_order : (q : Selection Expr) (rows : List InputRow) → IsStrictlySortedBy base_cmp (map (λ (row : InputRow). row.base) rows)
      → IsStrictlySortedBy base_cmp (map (λ (s : Subject). s.base) (subjects_of q rows))
  subjects_in_order q rows h =
      let by_base : Standing row_cmp rows = standing-unmap base_cmp (λ (row : InputRow). row.base) rows (standing base_cmp (map (λ (row : InputRow). row.base) rows) h) in
      strictly base_cmp (map (λ (s : Subject). s.base) (subjects_of q rows))
      (standing-map base_cmp (λ (s : Subject). s.base) (subjects_of q rows)
      (elim (is_grouped q) as (λ b. Standing subject_cmp (cond b (filter (has q.having) (map group_whole (groups_of q.groups rows))) (map row_alone rows))) [
        | true ↦ standing-filter subject_cmp (has q.having) (map group_whole (groups_of q.groups rows)) (groups_standing q.groups rows)
        | false ↦ alone_standing rows by_base
      ]))

-- ---- results without ORDER BY

pub already_in_order : (rs : List PlacedResult) → IsStrictlySortedBy base_cmp (map (λ (r : PlacedResult). r.base) rs) → in_order [] rs ≡ rs
already_in_order rs h =
    own_sort (placed_cmp []) rs (standing-unmap base_cmp (λ (r : PlacedResult). r.base) rs (standing base_cmp (map (λ (r : PlacedResult). r.base) rs) h))
