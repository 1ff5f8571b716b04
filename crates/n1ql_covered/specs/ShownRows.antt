-- What the rows of an index show of documents.
use Rattle.std.specs.Prelude.{ℕ, Bool, List, [], ◌∷◌, map}
use Rattle.std.specs.List.{filter, flat_map}
use Rattle.n1ql_value.specs.declared.datum.Datum.{Datum}
use Rattle.n1ql_value.specs.declared.datum.Datum.TheVariants as datum
use Rattle.n1ql_value.specs.declared.range.Range.{Range}
use Rattle.n1ql_value.specs.declared.row.Row.{Row}
use Rattle.n1ql_value.specs.declared.value.Value.{Value}
use Rattle.n1ql_value.specs.declared.value.Value.TheVariants.{Missing}
use Rattle.n1ql_value.specs.Datum.{datum_of}
use Rattle.n1ql_value.specs.Ranges.{some_span_holds}
use Rattle.n1ql_ast.specs.declared.expr.Expr.{Expr}
use Rattle.n1ql_ast.specs.declared.selection.Selection.{Selection}
use Rattle.n1ql_ast.specs.Conjunction.{conjuncts_in}
use Rattle.n1ql_ast.specs.Evaluation.{Environment, on_document, value_of}
use Rattle.index_def.specs.declared.definition.IndexDef.{IndexDef}
use Rattle.index_def.specs.Keys.{keys_of}
use Rattle.n1ql_spans.specs.Spans.{spans_of}
use Rattle.n1ql_meaning.specs.Rows.{InputRow, rows_from}
use Rattle.n1ql_covered.specs.OverKeys.{over_index}

-- the values of the keys of an index
abbrev pub keys_on : List Expr → Environment → List Datum
keys_on keys env = map (λ k. datum_of (value_of k env)) keys

-- a row of an index as a row of a statement: the keys in place of the document
abbrev pub row_shown : Row → InputRow
row_shown row = record { env = on_document row.id Missing row.keys; base = datum.Text row.id ∷ [] }

-- the rows of documents in some span, document by document
abbrev pub rows_in : List (List Range) → IndexDef → List (List ℕ × Value) → List Row
rows_in spans def docs = flat_map (λ e. filter (λ (row : Row). some_span_holds spans row.keys) (keys_of def e.0 e.1)) docs

-- the rows that a statement makes of those in its spans
abbrev pub rows_from_index : Selection Expr → IndexDef → List (List ℕ × Value) → List InputRow
rows_from_index q def docs = rows_from (over_index q def) (map row_shown (rows_in (spans_of (conjuncts_in q.filter) def) def docs))
