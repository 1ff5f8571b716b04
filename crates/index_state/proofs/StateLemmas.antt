-- The rows of each id, the rows of all ids, and the index of the documents that they come from.
use Rattle.std.proofs.Common.{◌≡◌, ℕ, Bool, true, false, cond, List, [], ◌∷◌, length, arith, refl, sym, ap, ◌∙◌, Some, None, unwrap_or}
use Rattle.std.proofs.lemmas.Cmp.{nat_list_cmp_total}
use Rattle.std.specs.Cmp.{eq_by_cmp_equiv}
use Rattle.std.specs.Cmp.Lexicographic.{slice_cmp}
use Rattle.std.specs.FinMap as map
use Rattle.std.specs.FinMap.{IsAntisymmetric, nat_cmp-IsAntisymmetric, slice_cmp-IsAntisymmetric}
use Rattle.std.specs.FinMap.Entries.{find}
use Rattle.std.specs.BTreeMap as tree
use Rattle.std.specs.BTreeMap.{BTreeMap, UpdatesBy, is_at}
use Rattle.std.specs.Map.{lookup}
use Rattle.std.specs.Option.{option_map_or}
use Rattle.std.specs.Ordering.{is_eq, nat_cmp, eq_by_cmp}
use Rattle.std.specs.declared.cmp.Ordering.{Ordering}
use Rattle.n1ql_value.specs.declared.row.Row.{Row}
use Rattle.n1ql_value.specs.declared.value.Value.{Value}
use Rattle.n1ql_value.specs.Collation.{row_cmp}
use Rattle.n1ql_value.proofs.RowLaws.{row_cmp-total, row_cmp-exact}
use Rattle.sorted_lists.specs.SortedLists.{sort_of, with_all, without_all}
use Rattle.sorted_lists.proofs.Exchange.{without_all-with_all}
use Rattle.sorted_lists.proofs.Orderings.{equal_of}
use Rattle.index_state.specs.RowsById.{RowsById, rows_at, with_rows, all_rows}
use Rattle.index_state.specs.inner.Held.{held_by, filled, full}
use Rattle.n1ql_value.specs.Documents.{Documents, index_by}
use Rattle.index_state.specs.Index.{keys_at, HoldsKeys}
use Rattle.index_state.proofs.EntryLemmas.{pieces, remove-insert, get_same-insert, same_pieces, sort_of-entries, mapped, is_sorted-mapped, find-mapped, pieces-mapped, if_any, pieces-full, is_sorted-full, find-full}

bytes_cmp : List ℕ → List ℕ → Ordering
bytes_cmp = slice_cmp nat_cmp

-- different ids are told apart
bytes_exact : IsAntisymmetric {K = List ℕ} (slice_cmp nat_cmp)
bytes_exact = slice_cmp-IsAntisymmetric nat_cmp-IsAntisymmetric

-- the rows of one id, put into the rows of all others
pub all_rows-remove : (held : RowsById) (id : List ℕ) → all_rows held ≡ with_all row_cmp (rows_at held id) (all_rows (map.remove held id))
all_rows-remove held id = sort_of-entries nat_list_cmp_total bytes_exact row_cmp-total row_cmp-exact held id

pub rows_at-insert : (held : RowsById) (id : List ℕ) (rows : List Row) → rows_at (map.insert held id rows) id ≡ rows
rows_at-insert held id rows = ap (λ v. unwrap_or v []) (get_same-insert nat_list_cmp_total bytes_exact held id rows)

pub all_rows-insert : (held : RowsById) (id : List ℕ) (rows : List Row) → all_rows (map.insert held id rows) ≡ with_all row_cmp rows (all_rows (map.remove held id))
all_rows-insert held id rows =
    all_rows-remove (map.insert held id rows) id
    ∙ ap (λ v. with_all row_cmp v (all_rows (map.remove (map.insert held id rows) id))) (rows_at-insert held id rows)
    ∙ ap (λ m. with_all row_cmp rows (all_rows m)) (remove-insert nat_list_cmp_total bytes_exact held id rows)

-- taking the rows of the id out leaves those of all others
others_left : (held : RowsById) (id : List ℕ) → without_all row_cmp (rows_at held id) (all_rows held) ≡ all_rows (map.remove held id)
others_left held id =
    ap (without_all row_cmp (rows_at held id)) (all_rows-remove held id)
    ∙ without_all-with_all row_cmp-total row_cmp-exact (rows_at held id) (all_rows (map.remove held id))

-- what to do to the rows of all ids where one id's rows are replaced
pub replaced : (held : RowsById) (id : List ℕ) (rows : List Row) → with_all row_cmp rows (without_all row_cmp (rows_at held id) (all_rows held)) ≡ all_rows (map.insert held id rows)
replaced held id rows = ap (with_all row_cmp rows) (others_left held id) ∙ sym (all_rows-insert held id rows)

pub dropped : (held : RowsById) (id : List ℕ) → with_all row_cmp [] (without_all row_cmp (rows_at held id) (all_rows held)) ≡ all_rows (map.remove held id)
dropped held id = others_left held id

find_is_lookup : {X : Type 0} (q : List ℕ) (es : List (List ℕ × X)) → find (slice_cmp nat_cmp) q es ≡ lookup (is_at (slice_cmp nat_cmp q)) es
find_is_lookup q [] = refl
find_is_lookup q (e ∷ es) = ap (λ v. cond (is_eq (slice_cmp nat_cmp q e.0)) (Some e.1) v) (find_is_lookup q es)

pub get-held_by : (m : BTreeMap (List ℕ) (List Row)) (q : List ℕ) → map.get (held_by m) q ≡ tree.get (slice_cmp nat_cmp) m q
get-held_by m q = map.get-from_entries nat_list_cmp_total m.entries q ∙ find_is_lookup q m.entries

pub held_by-insert : (m n : BTreeMap (List ℕ) (List Row)) (id : List ℕ) (rows : List Row) → UpdatesBy (slice_cmp nat_cmp) (slice_cmp nat_cmp id) m n (Some rows) → held_by n ≡ map.insert (held_by m) id rows
held_by-insert m n id rows u =
    map.same_map nat_list_cmp_total bytes_exact _ _ (λ q.
    get-held_by n q ∙ u.0 q
    ∙ ap (λ b. cond b (Some rows) (tree.get (slice_cmp nat_cmp) m q)) ((eq_by_cmp_equiv nat_list_cmp_total).symm id q)
    ∙ ap (cond (eq_by_cmp (slice_cmp nat_cmp) q id) (Some rows)) (sym (get-held_by m q))
    ∙ sym (map.get-insert nat_list_cmp_total (held_by m) id rows q))

pub held_by-remove : (m n : BTreeMap (List ℕ) (List Row)) (id : List ℕ) → UpdatesBy (slice_cmp nat_cmp) (slice_cmp nat_cmp id) m n None → held_by n ≡ map.remove (held_by m) id
held_by-remove m n id u =
    map.same_map nat_list_cmp_total bytes_exact _ _ (λ q.
    get-held_by n q ∙ u.0 q
    ∙ ap (λ b. cond b None (tree.get (slice_cmp nat_cmp) m q)) ((eq_by_cmp_equiv nat_list_cmp_total).symm id q)
    ∙ ap (cond (eq_by_cmp (slice_cmp nat_cmp) q id) None) (sym (get-held_by m q))
    ∙ sym (map.get-remove nat_list_cmp_total (held_by m) id q))

same_value : {A B : Type 0} (f : A → B) (b : Bool) (x y : A) → f (cond b x y) ≡ cond b (f x) (f y)
same_value f true x y = refl
same_value f false x y = refl

pub rows_at-with_rows : (held : RowsById) (id : List ℕ) (rows : List Row) (q : List ℕ) → rows_at (with_rows held id rows) q ≡ cond (eq_by_cmp (slice_cmp nat_cmp) q id) rows (rows_at held q)
rows_at-with_rows held id [] q =
    ap (λ v. unwrap_or v []) (map.get-remove nat_list_cmp_total held id q) ∙ same_value (λ v. unwrap_or v []) (eq_by_cmp (slice_cmp nat_cmp) q id) None (map.get held q)
rows_at-with_rows held id (row ∷ rows) q =
    ap (λ v. unwrap_or v []) (map.get-insert nat_list_cmp_total held id (row ∷ rows) q) ∙ same_value (λ v. unwrap_or v []) (eq_by_cmp (slice_cmp nat_cmp) q id) (Some (row ∷ rows)) (map.get held q)

keys_at-insert : (keys : List ℕ → Value → List Row) (docs : Documents) (id : List ℕ) (doc : Value) (q : List ℕ) → keys_at keys (map.insert docs id doc) q ≡ cond (eq_by_cmp (slice_cmp nat_cmp) q id) (keys q doc) (keys_at keys docs q)
keys_at-insert keys docs id doc q =
    ap (λ v. option_map_or (keys q) v []) (map.get-insert nat_list_cmp_total docs id doc q)
    ∙ same_value (λ v. option_map_or (keys q) v []) (eq_by_cmp (slice_cmp nat_cmp) q id) (Some doc) (map.get docs q)

keys_at-remove : (keys : List ℕ → Value → List Row) (docs : Documents) (id q : List ℕ) → keys_at keys (map.remove docs id) q ≡ cond (eq_by_cmp (slice_cmp nat_cmp) q id) [] (keys_at keys docs q)
keys_at-remove keys docs id q =
    ap (λ v. option_map_or (keys q) v []) (map.get-remove nat_list_cmp_total docs id q)
    ∙ same_value (λ v. option_map_or (keys q) v []) (eq_by_cmp (slice_cmp nat_cmp) q id) None (map.get docs q)

-- at an id that ties with another, the rows may be those of the other
at_tie : (f : List ℕ → List Row) (q id : List ℕ) (xs ys : List Row) → xs ≡ ys → cond (eq_by_cmp (slice_cmp nat_cmp) q id) (f id) xs ≡ cond (eq_by_cmp (slice_cmp nat_cmp) q id) (f q) ys
at_tie f q id xs ys e =
    elim (eq_by_cmp (slice_cmp nat_cmp) q id) as (λ b. eq_by_cmp (slice_cmp nat_cmp) q id ≡ b → cond b (f id) xs ≡ cond b (f q) ys) [
      | true ↦ λ t. ap f (sym (bytes_exact q id (equal_of _ t)))
      | false ↦ λ t. e
    ] refl

-- a document comes, in place of the one that its id had
pub HoldsKeys-insert : (keys : List ℕ → Value → List Row) (docs : Documents) (held : RowsById) (id : List ℕ) (doc : Value) → HoldsKeys keys docs held → HoldsKeys keys (map.insert docs id doc) (with_rows held id (keys id doc))
HoldsKeys-insert keys docs held id doc h = record {
  at = λ q. rows_at-with_rows held id (keys id doc) q ∙ at_tie (λ k. keys k doc) q id _ _ (h.at q) ∙ sym (keys_at-insert keys docs id doc q);
}

-- a document goes
pub HoldsKeys-remove : (keys : List ℕ → Value → List Row) (docs : Documents) (held : RowsById) (id : List ℕ) → HoldsKeys keys docs held → HoldsKeys keys (map.remove docs id) (map.remove held id)
HoldsKeys-remove keys docs held id h = record {
  at = λ q. rows_at-with_rows held id [] q ∙ at_tie (λ k. []) q id _ _ (h.at q) ∙ sym (keys_at-remove keys docs id q);
}

pub HoldsKeys-empty : (keys : List ℕ → Value → List Row) → HoldsKeys keys map.empty map.empty
HoldsKeys-empty keys = record {
  at = λ q. ap (λ v. unwrap_or v []) (map.get-empty (slice_cmp nat_cmp) q) ∙ sym (ap (λ v. option_map_or (keys q) v []) (map.get-empty (slice_cmp nat_cmp) q));
}

-- the rows of all ids are the index of the documents
pub all_rows_are_index : (keys : List ℕ → Value → List Row) (docs : Documents) (held : RowsById) → HoldsKeys keys docs held → all_rows held ≡ index_by keys docs
all_rows_are_index keys docs held h =
    ap (sort_of row_cmp)
    (same_pieces nat_list_cmp_total bytes_exact (map.entries held) (mapped bytes_exact keys (map.entries docs)) (map.entries_sorted held) (is_sorted-mapped bytes_exact keys (map.entries docs) (map.entries_sorted docs))
    (λ q. ap (λ v. unwrap_or v []) (sym (map.get-entries held q)) ∙ h.at q ∙ ap (λ v. option_map_or (keys q) v []) (map.get-entries docs q) ∙ sym (find-mapped bytes_exact keys q (map.entries docs)))
    ∙ pieces-mapped bytes_exact keys (map.entries docs))

-- what a look-up finds
pub rows_at-found : (m : BTreeMap (List ℕ) (List Row)) (id : List ℕ) (rows : List Row) → Some rows ≡ tree.get (slice_cmp nat_cmp) m id → rows_at (held_by m) id ≡ rows
rows_at-found m id rows e = ap (λ v. unwrap_or v []) (get-held_by m id ∙ sym e)

pub rows_at-none : (m : BTreeMap (List ℕ) (List Row)) (id : List ℕ) → None ≡ tree.get (slice_cmp nat_cmp) m id → rows_at (held_by m) id ≡ []
rows_at-none m id e = ap (λ v. unwrap_or v []) (get-held_by m id ∙ sym e)

-- the rows of all ids, once those of an id were replaced
pub exchanged : (before after : BTreeMap (List ℕ) (List Row)) (id : List ℕ) (old rows all new : List Row) → all ≡ all_rows (held_by before) → Some old ≡ tree.get (slice_cmp nat_cmp) before id
    → new ≡ with_all row_cmp rows (without_all row_cmp old all) → held_by after ≡ map.insert (held_by before) id rows → new ≡ all_rows (held_by after)
exchanged before after id old rows all new both at e f =
    e ∙ ap (λ o. with_all row_cmp rows (without_all row_cmp o all)) (sym (rows_at-found before id old at))
    ∙ ap (λ a. with_all row_cmp rows (without_all row_cmp (rows_at (held_by before) id) a)) both ∙ replaced (held_by before) id rows ∙ sym (ap all_rows f)

-- and once an id was dropped
pub taken : (before after : BTreeMap (List ℕ) (List Row)) (id : List ℕ) (old none all new : List Row) → none ≡ [] → all ≡ all_rows (held_by before) → Some old ≡ tree.get (slice_cmp nat_cmp) before id
    → new ≡ with_all row_cmp none (without_all row_cmp old all) → held_by after ≡ map.remove (held_by before) id → new ≡ all_rows (held_by after)
taken before after id old none all new empty both at e f =
    e ∙ ap (λ more. with_all row_cmp more (without_all row_cmp old all)) empty
    ∙ ap (λ o. without_all row_cmp o all) (sym (rows_at-found before id old at))
    ∙ ap (without_all row_cmp (rows_at (held_by before) id)) both ∙ dropped (held_by before) id ∙ sym (ap all_rows f)

pub nothing_of_length : {X : Type 0} (xs : List X) → length xs ≡ 0 → xs ≡ []
nothing_of_length [] h = refl
nothing_of_length (x ∷ xs) h = absurd (omega arith)

pub all_rows-empty : all_rows map.empty ≡ []
all_rows-empty =
    ap (λ es. sort_of row_cmp (pieces nat_list_cmp_total bytes_exact es))
    (nothing_of_length (map.entries {X = List Row} {R = slice_cmp nat_cmp} map.empty) (sym (map.len-entries {X = List Row} {R = slice_cmp nat_cmp} map.empty) ∙ map.len-empty (slice_cmp nat_cmp) (List Row)))

-- ---- maps without the ids that hold no rows

pub get-filled : (held : RowsById) (q : List ℕ) → map.get (filled held) q ≡ if_any (rows_at held q)
get-filled held q =
    map.get-from_sorted (slice_cmp nat_cmp) (full (map.entries held)) q (is_sorted-full nat_list_cmp_total bytes_exact (map.entries held) (map.entries_sorted held))
    ∙ find-full nat_list_cmp_total bytes_exact q (map.entries held) (map.entries_sorted held)
    ∙ ap (λ v. if_any (unwrap_or v [])) (sym (map.get-entries held q))

filled-same : (m n : RowsById) → ((q : List ℕ) → rows_at m q ≡ rows_at n q) → filled m ≡ filled n
filled-same m n e = map.same_map nat_list_cmp_total bytes_exact _ _ (λ q. get-filled m q ∙ ap if_any (e q) ∙ sym (get-filled n q))

pub all_rows-filled : (held : RowsById) → all_rows (filled held) ≡ all_rows held
all_rows-filled held =
    ap (λ es. sort_of row_cmp (pieces nat_list_cmp_total bytes_exact es))
    (map.entries-from_sorted (slice_cmp nat_cmp) (full (map.entries held)) (is_sorted-full nat_list_cmp_total bytes_exact (map.entries held) (map.entries_sorted held)))
    ∙ ap (sort_of row_cmp) (pieces-full nat_list_cmp_total bytes_exact (map.entries held))

put_at : (held : RowsById) (id : List ℕ) (rows : List Row) (q : List ℕ) → rows_at (map.insert held id rows) q ≡ cond (eq_by_cmp (slice_cmp nat_cmp) q id) rows (rows_at held q)
put_at held id rows q =
    ap (λ v. unwrap_or v []) (map.get-insert nat_list_cmp_total held id rows q) ∙ same_value (λ v. unwrap_or v []) (eq_by_cmp (slice_cmp nat_cmp) q id) (Some rows) (map.get held q)

pub filled-insert : (held : RowsById) (id : List ℕ) (rows : List Row) → filled (map.insert held id rows) ≡ with_rows (filled held) id rows
filled-insert held id [] =
    map.same_map nat_list_cmp_total bytes_exact _ _ (λ q.
    get-filled (map.insert held id []) q ∙ ap if_any (put_at held id [] q) ∙ same_value if_any (eq_by_cmp (slice_cmp nat_cmp) q id) [] (rows_at held q)
    ∙ ap (cond (eq_by_cmp (slice_cmp nat_cmp) q id) None) (sym (get-filled held q)) ∙ sym (map.get-remove nat_list_cmp_total (filled held) id q))
filled-insert held id (row ∷ rows) =
    map.same_map nat_list_cmp_total bytes_exact _ _ (λ q.
    get-filled (map.insert held id (row ∷ rows)) q ∙ ap if_any (put_at held id (row ∷ rows) q) ∙ same_value if_any (eq_by_cmp (slice_cmp nat_cmp) q id) (row ∷ rows) (rows_at held q)
    ∙ ap (cond (eq_by_cmp (slice_cmp nat_cmp) q id) (Some (row ∷ rows))) (sym (get-filled held q)) ∙ sym (map.get-insert nat_list_cmp_total (filled held) id (row ∷ rows) q))

pub filled-remove : (held : RowsById) (id : List ℕ) → filled (map.remove held id) ≡ map.remove (filled held) id
filled-remove held id =
    map.same_map nat_list_cmp_total bytes_exact _ _ (λ q.
    get-filled (map.remove held id) q ∙ ap if_any (rows_at-with_rows held id [] q) ∙ same_value if_any (eq_by_cmp (slice_cmp nat_cmp) q id) [] (rows_at held q)
    ∙ ap (cond (eq_by_cmp (slice_cmp nat_cmp) q id) None) (sym (get-filled held q)) ∙ sym (map.get-remove nat_list_cmp_total (filled held) id q))

-- where an id holds no rows
nothing_at : (held : RowsById) (id : List ℕ) → rows_at held id ≡ [] → (q : List ℕ) → cond (eq_by_cmp (slice_cmp nat_cmp) q id) [] (rows_at held q) ≡ rows_at held q
nothing_at held id none q =
    elim (eq_by_cmp (slice_cmp nat_cmp) q id) as (λ b. eq_by_cmp (slice_cmp nat_cmp) q id ≡ b → cond b [] (rows_at held q) ≡ rows_at held q) [
      | true ↦ λ t. sym (ap (rows_at held) (bytes_exact q id (equal_of _ t)) ∙ none)
      | false ↦ λ t. refl
    ] refl

-- a place without rows comes
pub entered : (before after : BTreeMap (List ℕ) (List Row)) (id : List ℕ) (none : List Row) → none ≡ [] → rows_at (held_by before) id ≡ [] → held_by after ≡ map.insert (held_by before) id none
    → filled (held_by after) ≡ filled (held_by before)
entered before after id none empty nothing e =
    ap filled (e ∙ ap (map.insert (held_by before) id) empty) ∙ filled-same (map.insert (held_by before) id []) (held_by before) (λ q. put_at (held_by before) id [] q ∙ nothing_at (held_by before) id nothing q)

-- a place without rows goes
pub left : (before after : BTreeMap (List ℕ) (List Row)) (id : List ℕ) → rows_at (held_by before) id ≡ [] → held_by after ≡ map.remove (held_by before) id → filled (held_by after) ≡ filled (held_by before)
left before after id nothing e =
    ap filled e ∙ filled-same (map.remove (held_by before) id) (held_by before) (λ q. rows_at-with_rows (held_by before) id [] q ∙ nothing_at (held_by before) id nothing q)

pub filled-empty : filled map.empty ≡ map.empty
filled-empty = map.same_map nat_list_cmp_total bytes_exact _ _ (λ q. get-filled map.empty q ∙ ap (λ v. if_any (unwrap_or v [])) (map.get-empty (slice_cmp nat_cmp) q) ∙ sym (map.get-empty (slice_cmp nat_cmp) q))

-- maps that are the same but for ids without rows have the same rows
pub same_rows : (m n : RowsById) → filled m ≡ filled n → all_rows m ≡ all_rows n
same_rows m n e = sym (all_rows-filled m) ∙ ap all_rows e ∙ all_rows-filled n
