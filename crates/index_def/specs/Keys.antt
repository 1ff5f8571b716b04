-- The rows of one document in an index.
use Rattle.std.specs.Prelude.{ℕ, Bool, false, not, List, [], ◌∷◌, map, Option, if◌then◌else◌}
use Rattle.std.specs.List.{filter, flat_map, list_all, list_any}
use Rattle.std.specs.Option.{option_map, option_map_or}
use Rattle.std.specs.Ordering.{is_eq}
use Rattle.std.specs.declared.cmp.Ordering.{Ordering}
use Rattle.n1ql_value.specs.declared.datum.Datum.{Datum}
use Rattle.n1ql_value.specs.declared.row.Row.{Row}
use Rattle.n1ql_value.specs.declared.value.Value.{Value}
use Rattle.n1ql_value.specs.Collation.{key_at, row_cmp}
use Rattle.n1ql_value.specs.Datum.{datum_of, value_of as value_at}
use Rattle.n1ql_value.specs.Kinds.{array_in, is_missing, is_true}
use Rattle.sorted_lists.specs.SortedLists.{each_once, sort_of}
use Rattle.n1ql_ast.specs.declared.key.Key.{Key}
use Rattle.n1ql_ast.specs.declared.key.Key.TheVariants.{Plain, Each}
use Rattle.n1ql_ast.specs.Evaluation.{Environment, on_document, passes, value_at_element, value_of}
use Rattle.index_def.specs.declared.definition.IndexDef.{IndexDef}

-- the elements of an array, and none of another value
abbrev pub elements_in : Value → List Value
elements_in v = option_map_or (map value_at) (array_in v) []

-- the values of a key: one, or for an array key those of the item for the elements whose WHEN is TRUE or absent
abbrev pub values_of : Key → Environment → List Value
values_of (Plain e) env = value_of e env ∷ []
values_of (Each distinct item var over when) env =
    map (value_at_element (value_of item) var env) (filter (passes (option_map value_of when) var env) (elements_in (value_of over env)))

-- all combinations of an element of each list
abbrev pub combinations : {A : Type 0} → List (List A) → List (List A)
combinations [] = [] ∷ []
combinations (choices ∷ more) = flat_map (λ a. map (λ rest. a ∷ rest) (combinations more)) choices

-- a value of each key, in all combinations
abbrev pub tuples_of : List Key → Environment → List (List Datum)
tuples_of keys env = combinations (map (λ key. map datum_of (values_of key env)) keys)

-- the leading value isn't MISSING
abbrev pub has_leading : List Datum → Bool
has_leading tuple = not (is_missing (value_at (key_at tuple 0)))

-- each conjunct of the filter is TRUE
abbrev pub is_admitted : IndexDef → Environment → Bool
is_admitted def env = list_all (λ e. is_true (value_of e env)) def.filter

-- a key that gives each of its values once
abbrev pub is_distinct : Key → Bool
is_distinct (Plain e) = false
is_distinct (Each distinct item var over when) = distinct

abbrev pub once_if : Bool → List Row → List Row
once_if distinct rows = (if distinct then each_once row_cmp rows else rows)

-- a row for each tuple that has a leading value
abbrev pub rows_of_tuples : List (List Datum) → List ℕ → List Row
rows_of_tuples tuples id = map (λ tuple. record { keys = tuple; id = id }) (filter has_leading tuples)

-- the rows of a document that the filter admits, in order: repeats are kept but with a DISTINCT key
abbrev pub keys_of : IndexDef → List ℕ → Value → List Row
keys_of def id doc =
    let env = on_document id doc [] in
    if is_admitted def env
    then sort_of row_cmp (once_if (list_any is_distinct def.keys) (rows_of_tuples (tuples_of def.keys env) id))
    else []

-- the rows of what a mutation leaves under an id, and none after a deletion
abbrev pub keys_of_body : IndexDef → List ℕ → Option Value → List Row
keys_of_body def id body = option_map_or (keys_of def id) body []
