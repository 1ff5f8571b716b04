-- What the rows of an index in some spans show of documents: of each document that has one of them itself, without the document.
use Rattle.std.proofs.Common.{◌≡◌, ℕ, Bool, true, false, ◌&&◌, ◌||◌, List, [], ◌∷◌, ◌++◌, map, IsTrue, cond, refl, sym, ap, ap₂, subst, ◌∙◌}
use Rattle.std.specs.List.{AllByRecursion, filter, flat_map, list_any}
use Rattle.std.proofs.lemmas.Bool.{true≢false}
use Rattle.std.proofs.lemmas.List.{map-append}
use Rattle.n1ql_value.specs.declared.datum.Datum.{Datum}
use Rattle.n1ql_value.specs.declared.range.Range.{Range}
use Rattle.n1ql_value.specs.declared.row.Row.{Row}
use Rattle.n1ql_value.specs.declared.value.Value.{Value}
use Rattle.n1ql_value.specs.Collation.{row_cmp}
use Rattle.n1ql_value.specs.Datum.{datum_of}
use Rattle.n1ql_value.specs.Ranges.{some_span_holds}
use Rattle.sorted_lists.specs.SortedLists.{sort_of}
use Rattle.n1ql_ast.specs.declared.expr.Expr.{Expr}
use Rattle.n1ql_ast.specs.declared.key.Key.{Key}
use Rattle.n1ql_ast.specs.declared.key.Key.TheVariants.{Plain, Each}
use Rattle.n1ql_ast.specs.Evaluation.{Environment, on_document}
use Rattle.index_def.specs.declared.definition.IndexDef.{IndexDef}
use Rattle.index_def.specs.Keys.{has_leading, is_admitted, is_distinct, keys_of, once_if, rows_of_tuples, tuples_of, values_of}
use Rattle.index_def.specs.Reasons.{is_array}
use Rattle.n1ql_spans.specs.Covering.{plain_keys}
use Rattle.n1ql_meaning.specs.Likeness.{viewed_row}
use Rattle.n1ql_meaning.specs.Rows.{InputRow, row_of_document}
use Rattle.n1ql_covered.specs.ShownRows.{keys_on, row_shown, rows_in}

-- without an array key there is one tuple of values
one_tuple : (keys : List Key) (env : Environment) → list_any is_array keys ≡ false → tuples_of keys env ≡ keys_on (plain_keys keys) env ∷ []
one_tuple [] env none = refl
one_tuple (Plain e ∷ keys) env none =
    ap (λ (more : List (List Datum)). flat_map (λ (d : Datum). map (λ (ds : List Datum). d ∷ ds) more) (map datum_of (values_of (Plain e) env))) (one_tuple keys env none)
one_tuple (Each distinct item var over when ∷ keys) env none = absurd (true≢false none)

once : (distinct : Bool) (row : Row) → sort_of row_cmp (once_if distinct (row ∷ [])) ≡ row ∷ []
once true row = refl
once false row = refl

no_row : (distinct : Bool) → sort_of row_cmp (once_if distinct []) ≡ []
no_row true = refl
no_row false = refl

-- so there is one row, or none
one_row : (tuple : List Datum) (id : List ℕ) (distinct : Bool)
    → sort_of row_cmp (once_if distinct (rows_of_tuples (tuple ∷ []) id)) ≡ cond (has_leading tuple) ((let row : Row = record { keys = tuple; id = id } in row) ∷ []) []
one_row tuple id distinct =
    elim (has_leading tuple) as (λ b. sort_of row_cmp (once_if distinct (map (λ ds. let row : Row = record { keys = ds; id = id } in row) (cond b (tuple ∷ []) [])))
    ≡ cond b ((let row : Row = record { keys = tuple; id = id } in row) ∷ []) []) [
      | true ↦ once distinct (let row : Row = record { keys = tuple; id = id } in row)
      | false ↦ no_row distinct
    ]

module _ (def : IndexDef) (none : list_any is_array def.keys ≡ false) where
  abbrev keys : List Expr
  keys = plain_keys def.keys

  abbrev row_of : List ℕ × Value → Row
  row_of e = record { keys = keys_on keys (on_document e.0 e.1 []); id = e.0 }

  abbrev admits : List ℕ × Value → Bool
  admits e = is_admitted def (on_document e.0 e.1 [])

  the_row : (e : List ℕ × Value) → keys_of def e.0 e.1 ≡ cond (admits e && has_leading (row_of e).keys) (row_of e ∷ []) []
  the_row e =
      let distinct : Bool = list_any is_distinct def.keys in
      ap (λ ts. cond (admits e) (sort_of row_cmp (once_if distinct (rows_of_tuples ts e.0))) []) (one_tuple def.keys (on_document e.0 e.1 []) none)
      ∙ (ap (λ rows. cond (admits e) rows []) (one_row (row_of e).keys e.0 distinct)
      ∙ elim (admits e) as (λ b. cond b (cond (has_leading (row_of e).keys) (row_of e ∷ []) []) [] ≡ cond (b && has_leading (row_of e).keys) (row_of e ∷ []) []) [
        | true ↦ refl
        | false ↦ refl
      ])

  module _ (spans : List (List Range)) where
    abbrev held : Row → Bool
    held row = some_span_holds spans row.keys

    -- a document that has a row in the spans
    abbrev pub is_met : List ℕ × Value → Bool
    is_met e = list_any held (keys_of def e.0 e.1)

    abbrev shown : List ℕ × Value → InputRow
    shown e = viewed_row (keys_on keys) (row_of_document e)

    held_alone : (e : List ℕ × Value) (h : Bool)
        → map row_shown (cond h (row_of e ∷ []) []) ≡ cond (h || false) (shown e ∷ []) []
    held_alone e true = refl
    held_alone e false = refl

    shown_if : (e : List ℕ × Value) (b : Bool)
        → map row_shown (filter held (cond b (row_of e ∷ []) [])) ≡ cond (list_any held (cond b (row_of e ∷ []) [])) (shown e ∷ []) []
    shown_if e true = held_alone e (held (row_of e))
    shown_if e false = refl

    shown_one : (e : List ℕ × Value) → map row_shown (filter held (keys_of def e.0 e.1)) ≡ cond (is_met e) (shown e ∷ []) []
    shown_one e =
        ap (λ rows. map row_shown (filter held rows)) (the_row e)
        ∙ (shown_if e (admits e && has_leading (row_of e).keys) ∙ ap (λ rows. cond (list_any held rows) (shown e ∷ []) []) (sym (the_row e)))

    put_first : (e : List ℕ × Value) (docs : List (List ℕ × Value)) (b : Bool)
        → cond b (shown e ∷ []) [] ++ map shown (filter is_met docs) ≡ map shown (cond b (e ∷ filter is_met docs) (filter is_met docs))
    put_first e docs true = refl
    put_first e docs false = refl

    pub shown_rows : (docs : List (List ℕ × Value)) → map row_shown (rows_in spans def docs) ≡ map shown (filter is_met docs)
    shown_rows [] = refl
    shown_rows (e ∷ docs) =
        map-append row_shown (filter held (keys_of def e.0 e.1)) (rows_in spans def docs)
        ∙ (ap₂ ◌++◌ (shown_one e) (shown_rows docs) ∙ put_first e docs (is_met e))

    -- the filter of the index admits it
    admitted_if : (e : List ℕ × Value) (a b : Bool) → list_any held (cond (a && b) (row_of e ∷ []) []) ≡ true → IsTrue a
    admitted_if e true b h = refl
    admitted_if e false b h = absurd cc

    pub met_admitted : (e : List ℕ × Value) → is_met e ≡ true → IsTrue (admits e)
    met_admitted e h = admitted_if e (admits e) (has_leading (row_of e).keys) (ap (list_any held) (sym (the_row e)) ∙ h)

-- what holds of each element that passes a test holds of those that do
pub all_kept : {X : Type 0} (P : X → Type 0) (so : X → Bool) → ((x : X) → so x ≡ true → P x) → (xs : List X) → AllByRecursion P (filter so xs)
all_kept P so each [] = tt
all_kept P so each (x ∷ xs) =
    elim (so x) as (λ b. so x ≡ b → AllByRecursion P (cond b (x ∷ filter so xs) (filter so xs))) [
      | true ↦ λ is. (each x is, all_kept P so each xs)
      | false ↦ λ is. all_kept P so each xs
    ] refl
