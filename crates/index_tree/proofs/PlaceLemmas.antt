-- What stands at the place of a row, in a list of shared rows.
use Rattle.std.proofs.Common.{◌≡◌, ℕ, zero, suc, ◌<◌, ◌≤◌, Bool, true, false, List, [], ◌∷◌, ◌++◌, map, length, get_or, take, ◌+◌, sym, ap, ◌∙◌, subst, arith}
use Rattle.std.proofs.lemmas.List.{length-map, take-map, drop-map, map-append, get_or-map, take_more}
use Rattle.std.proofs.lemmas.List.Kept.{IsSortedBy-filter}
use Rattle.std.proofs.lemmas.List.Sorted.{ranks_by}
use Rattle.std.specs.Arc.{arc_value}
use Rattle.std.specs.List.{AllWithin, Contains, insert, remove}
use Rattle.std.specs.List.Sorted.{IsSorted, IsPartitionedBy, IsPartitionPoint}
use Rattle.std.specs.Ordering.{is_lt, is_eq}
use Rattle.std.specs.declared.sync.Arc.{Arc}
use Rattle.std.specs.declared.alloc.Global.{Global}
use Rattle.n1ql_value.specs.declared.row.Row.{Row}
use Rattle.n1ql_value.specs.Collation.{row_cmp}
use Rattle.n1ql_value.proofs.RowLaws.{row_cmp-total, row_cmp-exact}
use Rattle.sorted_lists.specs.SortedLists.{insert_sorted, without_one, with_all, without_all}
use Rattle.sorted_lists.proofs.Places.{IsPartitionedBy-below, insert-place, remove-place, none_ties, none_ties_not_contained}
use Rattle.sorted_lists.proofs.Exchange.{with_all-append, without_all-push}
use Rattle.sorted_lists.proofs.InOrder.{without_one-absent}
use Rattle.sorted_lists.proofs.Orderings.{equal_of}
use Rattle.n1ql_value.specs.declared.range.Range.{Range}
use Rattle.index_tree.specs.inner.Shared.{rows_in, IsLowerBound}
use Rattle.index_tree.specs.Range.{rows_within}
use Rattle.n1ql_value.specs.Ranges.{some_span_holds}

module _ {X Y : Type 0} (f : X → Y) where
  map-insert : (xs : List X) (i : ℕ) (x : X) → map f (insert xs i x) ≡ insert (map f xs) i (f x)
  map-insert xs i x = simp (map-append, take-map, drop-map)

  map-remove : (xs : List X) (i : ℕ) → map f (remove xs i) ≡ remove (map f xs) i
  map-remove xs i = simp (map-append, take-map, drop-map)

  at_map : (P : Y → Type 0) (xs : List X) (k : ℕ) (d : Y) → k < length xs → ((e : X) → P (f (get_or xs k e))) → P (get_or (map f xs) k d)
  at_map P [] k d h p = absurd (omega arith)
  at_map P (x ∷ xs) zero d h p = p x
  at_map P (x ∷ xs) (suc k) d h p = at_map P xs k d (omega arith) p

  AllWithin-map : (P : Y → Type 0) (xs : List X) (low high : ℕ) → high ≤ length xs → AllWithin (λ x. P (f x)) xs low high → AllWithin P (map f xs) low high
  AllWithin-map P xs low high h all k d lo hi = at_map P xs k d (omega arith) (λ e. all k e lo hi)

  IsPartitionPoint-map : (P Q : Y → Type 0) (xs : List X) (i : ℕ) → i ≤ length xs → IsPartitionPoint (λ x. P (f x)) (λ x. Q (f x)) xs i → IsPartitionPoint P Q (map f xs) i
  IsPartitionPoint-map P Q xs i h p =
      (AllWithin-map P xs 0 i h p.0, subst (AllWithin Q (map f xs) i) (sym (length-map xs f)) (AllWithin-map Q xs i (length xs) (omega arith) p.1))

  IsPartitionedBy-from_map : (p : Y → Bool) (xs : List X) → IsPartitionedBy p (map f xs) → IsPartitionedBy (λ x. p (f x)) xs
  IsPartitionedBy-from_map p xs parted i j d le h e =
      let at_j : get_or (map f xs) j (f d) ≡ f (get_or xs j d) = get_or-map f xs j d (f d) h in
      let at_i : get_or (map f xs) i (f d) ≡ f (get_or xs i d) = get_or-map f xs i d (f d) (omega arith) in
      subst (λ y. p y ≡ true) at_i (parted i j (f d) le (rw length-map h) (subst (λ y. p y ≡ true) (sym at_j) e))

pub parted : (shared : List (Arc Row Global)) (row : Row) → IsSorted row_cmp (rows_in shared) → IsPartitionedBy (λ held. is_lt (row_cmp (arc_value held) row)) shared
parted shared row s = IsPartitionedBy-from_map arc_value (λ held. is_lt (row_cmp held row)) shared (IsPartitionedBy-below row_cmp-total row (rows_in shared) s)

pub is_place : (shared : List (Arc Row Global)) (row : Row) (i : ℕ) → i ≤ length shared
    → IsPartitionPoint (λ held. is_lt (row_cmp (arc_value held) row) ≡ true) (λ held. is_lt (row_cmp (arc_value held) row) ≡ false) shared i → IsLowerBound shared row i
is_place shared row i h p = IsPartitionPoint-map arc_value (λ held. is_lt (row_cmp held row) ≡ true) (λ held. is_lt (row_cmp held row) ≡ false) shared i h p

pub put_at_place : (shared : List (Arc Row Global)) (one : Arc Row Global) (i : ℕ) → i ≤ length shared → IsLowerBound shared (arc_value one) i
    → rows_in (insert shared i one) ≡ insert_sorted row_cmp (arc_value one) (rows_in shared)
put_at_place shared one i h p =
    map-insert arc_value shared i one ∙ insert-place row_cmp-total (arc_value one) (rows_in shared) i (rw length-map h) p

-- the row at the place ties
pub took_at_place : (shared : List (Arc Row Global)) (row : Row) (i : ℕ) → i < length shared → IsLowerBound shared row i → (one : Arc Row Global) → one ≡ get_or shared i one
    → is_eq (row_cmp (arc_value one) row) ≡ true → rows_in (remove shared i) ≡ without_one row_cmp row (rows_in shared)
took_at_place shared row i h p one at tie =
    map-remove arc_value shared i
    ∙ remove-place row_cmp-total row (rows_in shared) i (rw length-map h) p.0
    (λ d. subst (λ (held : Row). is_eq (row_cmp held row) ≡ true) (sym (get_or-map arc_value shared i one d h ∙ ap arc_value (sym at))) tie)

pub found_at_place : (shared : List (Arc Row Global)) (row : Row) (i : ℕ) → i < length shared → (one : Arc Row Global) → one ≡ get_or shared i one
    → is_eq (row_cmp (arc_value one) row) ≡ true → Contains (rows_in shared) row
found_at_place shared row i h one at tie =
    (i, rw length-map h, get_or-map arc_value shared i one row h ∙ ap arc_value (sym at) ∙ row_cmp-exact _ _ (equal_of _ tie))

-- no row ties with this one
abbrev pub NoneTies : List (Arc Row Global) → Row → Type 0
NoneTies shared row = AllWithin (λ held. is_eq (row_cmp row held) ≡ false) (rows_in shared) 0 (length (rows_in shared))

-- there is no row at the place
pub none_past_end : (shared : List (Arc Row Global)) (row : Row) (i : ℕ) → IsSorted row_cmp (rows_in shared) → IsLowerBound shared row i → length shared ≤ i → NoneTies shared row
none_past_end shared row i s p past = none_ties row_cmp-total row (rows_in shared) i s p (λ h d. absurd (omega (arith, length-map shared arc_value)))

-- the row at the place doesn't tie
pub none_at_place : (shared : List (Arc Row Global)) (row : Row) (i : ℕ) → IsSorted row_cmp (rows_in shared) → IsLowerBound shared row i → i < length shared → (one : Arc Row Global) → one ≡ get_or shared i one
    → is_eq (row_cmp (arc_value one) row) ≡ false → NoneTies shared row
none_at_place shared row i s p h one at other =
    none_ties row_cmp-total row (rows_in shared) i s p
    (λ _ d. subst (λ (held : Row). is_eq (row_cmp held row) ≡ false) (sym (get_or-map arc_value shared i one d h ∙ ap arc_value (sym at))) other)

pub unchanged_without : (shared : List (Arc Row Global)) (row : Row) → NoneTies shared row → rows_in shared ≡ without_one row_cmp row (rows_in shared)
unchanged_without shared row none = sym (without_one-absent row_cmp row (rows_in shared) none)

pub not_found : (shared : List (Arc Row Global)) (row : Row) → NoneTies shared row → ¬ Contains (rows_in shared) row
not_found shared row none = none_ties_not_contained row_cmp-total row (rows_in shared) none

-- the last of those that are to go in went in
pub put_more : (left : List (Arc Row Global)) (one : Arc Row Global) (all now new : List (Arc Row Global)) → all ≡ left ++ one ∷ [] → rows_in new ≡ insert_sorted row_cmp (arc_value one) (rows_in now)
    → with_all row_cmp (rows_in left) (rows_in new) ≡ with_all row_cmp (rows_in all) (rows_in now)
put_more left one all now new e h =
    ap (with_all row_cmp (rows_in left)) h
    ∙ sym (with_all-append row_cmp-total row_cmp-exact (rows_in left) (arc_value one ∷ []) (rows_in now))
    ∙ ap (λ more. with_all row_cmp more (rows_in now)) (sym (map-append arc_value left (one ∷ [])) ∙ sym (ap rows_in e))

-- the next of those that are to go went out
pub take_more_out : (out : List (Arc Row Global)) (i : ℕ) (one : Arc Row Global) (row : Row) (first now new : List Row) → i < length out → one ≡ get_or out i one → row ≡ arc_value one
    → now ≡ without_all row_cmp (rows_in (take i out)) first → new ≡ without_one row_cmp row now → new ≡ without_all row_cmp (rows_in (take (i + 1) out)) first
take_more_out out i one row first now new h at is before step =
    let longer : take i out ++ one ∷ [] ≡ take (i + 1) out = ap (λ (last : Arc Row Global). take i out ++ last ∷ []) at ∙ sym (take_more out i one h) in
    step ∙ ap (λ (r : Row). without_one row_cmp r now) is ∙ ap (without_one row_cmp (arc_value one)) before
    ∙ sym (without_all-push row_cmp-total row_cmp-exact (rows_in (take i out)) (arc_value one) first)
    ∙ ap (λ more. without_all row_cmp more first) (sym (map-append arc_value (take i out) (one ∷ [])) ∙ ap rows_in longer)

pub IsSorted-rows_within : (spans : List (List Range)) (rows : List Row) → IsSorted row_cmp rows → IsSorted row_cmp (rows_within spans rows)
IsSorted-rows_within spans rows s = IsSortedBy-filter _ (ranks_by row_cmp-total (λ r. r)) (λ row. some_span_holds spans row.keys) rows s
