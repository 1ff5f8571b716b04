-- The meaning of a SELECT: its results, in order.
use Rattle.std.specs.Prelude.{ℕ, List, map}
use Rattle.std.specs.FinMap as finite
use Rattle.n1ql_value.specs.declared.value.Value.{Value}
use Rattle.n1ql_value.specs.Documents.{Documents}
use Rattle.n1ql_ast.specs.declared.expr.Expr.{Expr}
use Rattle.n1ql_ast.specs.declared.selection.Selection.{Selection}
use Rattle.n1ql_meaning.specs.Finish.{finished}
use Rattle.n1ql_meaning.specs.Results.{placed_result, subjects_of}
use Rattle.n1ql_meaning.specs.Rows.{InputRow, rows_of}

-- on its rows, which stand by their bases
abbrev pub results_of_rows : Selection Expr → List InputRow → List Value
results_of_rows q rows = finished q (map (placed_result q) (subjects_of q rows))

-- on documents, which stand by their ids
abbrev pub results_of : Selection Expr → List (List ℕ × Value) → List Value
results_of q docs = results_of_rows q (rows_of q docs)

-- on the documents of a keyspace
abbrev pub meaning_of : Selection Expr → Documents → List Value
meaning_of q docs = results_of q (finite.entries docs)
