-- How a statement without groups is run over rows of an index.
use Rattle.std.specs.Prelude.{List, [], ◌∷◌, map}
use Rattle.std.specs.Ordering.{nat_cmp, on, then_cmp}
use Rattle.std.specs.Cmp.Lexicographic.{slice_cmp}
use Rattle.std.specs.declared.cmp.Ordering.{Ordering}
use Rattle.n1ql_value.specs.declared.row.Row.{Row}
use Rattle.n1ql_value.specs.declared.value.Value.{Value}
use Rattle.n1ql_value.specs.Collation.{row_cmp}
use Rattle.n1ql_ast.specs.declared.expr.Expr.{Expr}
use Rattle.n1ql_ast.specs.declared.selection.Selection.{Selection}
use Rattle.n1ql_meaning.specs.Finish.{finished}
use Rattle.n1ql_meaning.specs.Results.{placed_result, row_alone}
use Rattle.n1ql_meaning.specs.Rows.{InputRow, rows_from}
use Rattle.n1ql_covered.specs.OverKeys.{over_index}
use Rattle.n1ql_covered.specs.ShownRows.{row_shown}
use Rattle.index_def.specs.declared.definition.IndexDef.{IndexDef}

-- rows by the ids of their documents
abbrev pub by_id : Row → Row → Ordering
by_id = then_cmp (on (λ (row : Row). row.id) (slice_cmp nat_cmp)) row_cmp

-- a statement on its rows, each by itself
abbrev pub plain_results : Selection Expr → List InputRow → List Value
plain_results q rows = finished q (map (λ row. placed_result q (row_alone row)) rows)

-- on no rows the statement itself is evaluated
abbrev pub statement_for : Selection Expr → Selection Expr → List InputRow → Selection Expr
statement_for q over [] = q
statement_for q over (row ∷ rows) = over

abbrev pub results_with : Selection Expr → Selection Expr → List InputRow → List Value
results_with q over inputs = let rows = rows_from over inputs in plain_results (statement_for q over rows) rows

abbrev pub results_over : Selection Expr → IndexDef → List Row → List Value
results_over q def rows = results_with q (over_index q def) (map row_shown rows)
