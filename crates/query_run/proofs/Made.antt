-- What each step of a run makes, of what the steps before it made.
use Rattle.std.proofs.Common.{◌≡◌, List, [], ◌∷◌, map, refl, sym, ap, ◌∙◌}
use Rattle.n1ql_value.specs.declared.datum.Datum.{Datum}
use Rattle.n1ql_value.specs.declared.row.Row.{Row}
use Rattle.n1ql_value.specs.Datum.{datum_of}
use Rattle.n1ql_ast.specs.declared.expr.Expr.{Expr}
use Rattle.n1ql_ast.specs.declared.selection.Selection.{Selection}
use Rattle.index_def.specs.declared.definition.IndexDef.{IndexDef}
use Rattle.n1ql_meaning.specs.Finish.{finished}
use Rattle.n1ql_meaning.specs.Results.{PlacedResult, placed_result, row_alone}
use Rattle.n1ql_meaning.specs.Rows.{InputRow, rows_from}
use Rattle.n1ql_covered.specs.OverKeys.{over_index}
use Rattle.n1ql_covered.specs.ShownRows.{row_shown}
use Rattle.query_run.specs.inner.Runs.{plain_results, results_over, results_with, statement_for}

each_after : {A B C : Type 0} (f : A → B) (g : B → C) (xs : List A) → map g (map f xs) ≡ map (λ x. g (f x)) xs
each_after f g [] = refl
each_after f g (x ∷ xs) = ap (λ ys. g (f x) ∷ ys) (each_after f g xs)

pub plain_made : {A : Type 0} (row_of : A → InputRow) (q : Selection Expr) (rows : List A) (placed : List PlacedResult) (vs : List Datum)
    → placed ≡ map (λ row. placed_result q (row_alone (row_of row))) rows → vs ≡ map datum_of (finished q placed)
    → vs ≡ map datum_of (plain_results q (map row_of rows))
plain_made row_of q rows placed vs is made =
    made ∙ ap (λ rs. map datum_of (finished q rs)) (is ∙ sym (each_after row_of (λ row. placed_result q (row_alone row)) rows))

pub with_made : (q over statement : Selection Expr) (inputs rows : List InputRow) (vs : List Datum) → rows ≡ rows_from over inputs
    → statement ≡ statement_for q over rows → vs ≡ map datum_of (plain_results statement rows) → vs ≡ map datum_of (results_with q over inputs)
with_made q over statement inputs rows vs is for made =
    made ∙ (ap (λ s. map datum_of (plain_results s rows)) for ∙ ap (λ rs. map datum_of (plain_results (statement_for q over rs) rs)) is)

pub over_made : (q over : Selection Expr) (def : IndexDef) (rows : List Row) (inputs : List InputRow) (vs : List Datum) → over ≡ over_index q def
    → inputs ≡ map row_shown rows → vs ≡ map datum_of (results_with q over inputs) → vs ≡ map datum_of (results_over q def rows)
over_made q over def rows inputs vs is shown made =
    made ∙ (ap (λ o. map datum_of (results_with q o inputs)) is ∙ ap (λ xs. map datum_of (results_with q (over_index q def) xs)) shown)
