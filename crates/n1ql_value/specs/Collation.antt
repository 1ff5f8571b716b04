-- The order of values and of rows: the collation of types, and within a type the order of its values.
use Rattle.std.specs.Prelude.{ℕ, List, [], ◌∷◌, length, slice_index_or}
use Rattle.std.specs.Ordering.{nat_cmp, int_cmp, ordering_then}
use Rattle.std.specs.declared.cmp.Ordering.{Ordering}
use Rattle.std.specs.declared.cmp.Ordering.TheVariants.{Equal}
use Rattle.std.specs.Cmp.Lexicographic.{slice_cmp}
use Rattle.n1ql_value.specs.declared.datum.Datum.{Datum, fold-Datum, out-Datum}
use Rattle.n1ql_value.specs.declared.datum.Datum.TheVariants as datum
use Rattle.n1ql_value.specs.declared.datum.Datum.TheOpen.{Datum-F}
use Rattle.n1ql_value.specs.declared.row.Row.{Row}
use Rattle.n1ql_value.specs.Layers.{class_of, number_of, bytes_of, elements_of, pairs_of}

-- pairs of an object, the name before the value
abbrev pub pair_cmp : {A : Type 0} → (A → Datum → Ordering) → List ℕ × A → List ℕ × Datum → Ordering
pair_cmp below p q = ordering_then (slice_cmp nat_cmp p.0 q.0) (below p.1 q.1)

-- One layer, given the order below it: by class, then numbers by value, strings by their bytes, arrays element by element
-- with a proper prefix smaller, objects by the number of names and then by their pairs.
abbrev pub layer_cmp : {A : Type 0} → (A → Datum → Ordering) → Datum-F A → Datum-F Datum → Ordering
layer_cmp below a b =
    ordering_then (nat_cmp (class_of a) (class_of b))
    (ordering_then (int_cmp (number_of a) (number_of b))
    (ordering_then (slice_cmp nat_cmp (bytes_of a) (bytes_of b))
    (ordering_then (slice_cmp below (elements_of a) (elements_of b))
    (ordering_then (nat_cmp (length (pairs_of a)) (length (pairs_of b)))
    (slice_cmp (pair_cmp below) (pairs_of a) (pairs_of b))))))

abbrev pub compare_with : Datum-F (Datum → Ordering) → Datum → Ordering
compare_with a b = layer_cmp (λ compare d. compare d) a (out-Datum b)

-- the order of values
unfoldable pub value_cmp : Datum → Datum → Ordering
value_cmp = fold-Datum (Datum → Ordering) compare_with

-- the key at a place, MISSING past the keys
abbrev pub key_at : List Datum → ℕ → Datum
key_at ks place = slice_index_or ks place datum.Missing

-- the keys of rows, place by place; a place past the keys reads MISSING
abbrev pub keys_cmp : List Datum → List Datum → Ordering
keys_cmp [] [] = Equal
keys_cmp [] (k ∷ ks) = ordering_then (value_cmp datum.Missing k) (keys_cmp [] ks)
keys_cmp (j ∷ js) [] = ordering_then (value_cmp j datum.Missing) (keys_cmp js [])
keys_cmp (j ∷ js) (k ∷ ks) = ordering_then (value_cmp j k) (keys_cmp js ks)

-- the order of rows: by their keys, then the fewer keys first, then by id
abbrev pub row_cmp : Row → Row → Ordering
row_cmp a b = ordering_then (keys_cmp a.keys b.keys) (ordering_then (nat_cmp (length a.keys) (length b.keys)) (slice_cmp nat_cmp a.id b.id))
