-- Without an array key a document has at most one row.
use Rattle.std.proofs.Common.{◌≡◌, ◌≤◌, ℕ, suc, Bool, true, false, ◌||◌, cond, List, [], ◌∷◌, length, map, refl, sym, ap, subst, ◌∙◌, arith}
use Rattle.std.specs.List.{filter, flat_map, list_any}
use Rattle.std.proofs.lemmas.Bool.{true≢false}
use Rattle.n1ql_value.specs.declared.datum.Datum.{Datum}
use Rattle.n1ql_value.specs.declared.row.Row.{Row}
use Rattle.n1ql_value.specs.declared.value.Value.{Value}
use Rattle.n1ql_value.specs.Collation.{row_cmp}
use Rattle.n1ql_value.specs.Datum.{datum_of}
use Rattle.sorted_lists.specs.SortedLists.{sort_of}
use Rattle.sorted_lists.proofs.InOrder.{length-sort_of}
use Rattle.n1ql_ast.specs.declared.key.Key.{Key}
use Rattle.n1ql_ast.specs.declared.key.Key.TheVariants.{Plain, Each}
use Rattle.n1ql_ast.specs.Evaluation.{Environment, on_document}
use Rattle.index_def.specs.declared.definition.IndexDef.{IndexDef}
use Rattle.index_def.specs.Keys.{combinations, has_leading, is_admitted, is_distinct, keys_of, once_if, rows_of_tuples, tuples_of, values_of}
use Rattle.index_def.specs.Reasons.{is_array}

-- the one tuple
one_tuple : (keys : List Key) (env : Environment) → list_any is_array keys ≡ false → (tuple : List Datum) × (tuples_of keys env ≡ tuple ∷ [])
one_tuple [] env none = ([], refl)
one_tuple (Plain e ∷ keys) env none =
    let rest = one_tuple keys env none in
    (_, ap (λ (more : List (List Datum)). flat_map (λ (d : Datum). map (λ (ds : List Datum). d ∷ ds) more) (map datum_of (values_of (Plain e) env))) rest.1)
one_tuple (Each distinct item var over when ∷ keys) env none = absurd (true≢false none)

one_row : (tuple : List Datum) (id : List ℕ) (distinct : Bool) → length (once_if distinct (rows_of_tuples (tuple ∷ []) id)) ≤ 1
one_row tuple id distinct =
    elim (has_leading tuple) as (λ b. length (once_if distinct (map (λ ds. let row : Row = record { keys = ds; id = id } in row) (cond b (tuple ∷ []) []))) ≤ 1) [
      | true ↦ elim distinct as (λ d. length (once_if d ((let row : Row = record { keys = tuple; id = id } in row) ∷ [])) ≤ 1) [ true ↦ omega arith | false ↦ omega arith ]
      | false ↦ elim distinct as (λ d. length (once_if d []) ≤ 1) [ true ↦ omega arith | false ↦ omega arith ]
    ]

pub keys_at_most_one : (def : IndexDef) (id : List ℕ) (doc : Value) → list_any is_array def.keys ≡ false → length (keys_of def id doc) ≤ 1
keys_at_most_one def id doc none =
    let env = on_document id doc [] in
    let one = one_tuple def.keys env none in
    let distinct : Bool = list_any is_distinct def.keys in
    let few : length (once_if distinct (rows_of_tuples (tuples_of def.keys env) id)) ≤ 1 = subst (λ ts. length (once_if distinct (rows_of_tuples ts id)) ≤ 1) (sym one.1) (one_row one.0 id distinct) in
    elim (is_admitted def env) as (λ b. length (cond b (sort_of row_cmp (once_if distinct (rows_of_tuples (tuples_of def.keys env) id))) []) ≤ 1) [
      | true ↦ omega (arith, few, length-sort_of row_cmp (once_if distinct (rows_of_tuples (tuples_of def.keys env) id)))
      | false ↦ omega arith
    ]
