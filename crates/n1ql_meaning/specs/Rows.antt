-- The rows of a statement: UNNEST and WHERE.
use Rattle.std.specs.Prelude.{◌≡◌, ℕ, suc, pos, Bool, true, false, List, [], ◌∷◌, ◌++◌, map, reverse, Option, Some, None, unwrap_or, if◌then◌else◌}
use Rattle.std.specs.List.{filter, flat_map}
use Rattle.std.specs.declared.cmp.Ordering.{Ordering}
use Rattle.std.specs.Cmp.Lexicographic.{slice_cmp}
use Rattle.n1ql_value.specs.declared.datum.Datum.{Datum}
use Rattle.n1ql_value.specs.declared.datum.Datum.TheVariants as datum
use Rattle.n1ql_value.specs.declared.value.Value.{Value}
use Rattle.n1ql_value.specs.declared.value.Value.TheVariants.{Missing}
use Rattle.n1ql_value.specs.Collation.{value_cmp}
use Rattle.n1ql_value.specs.Datum.{value_of as value_at}
use Rattle.n1ql_value.specs.Kinds.{array_in, is_true}
use Rattle.n1ql_ast.specs.declared.expr.Expr.{Expr}
use Rattle.n1ql_ast.specs.declared.selection.Selection.{Selection}
use Rattle.n1ql_ast.specs.declared.unnest.Unnest.{Unnest}
use Rattle.n1ql_ast.specs.Evaluation.{Environment, inside, value_of}
use Rattle.n1ql_ast.specs.FormedSelections.{unnest_names}

-- A row: what expressions are evaluated on, and the base, by which rows are in order: the id of the document, and then the place of
-- the element of each UNNEST, the first UNNEST first.
pub record InputRow : Type 0 where
  pub env : Environment
  pub base : List Datum

-- the order of bases: the first places at which they differ
abbrev pub base_cmp : List Datum → List Datum → Ordering
base_cmp = slice_cmp value_cmp

-- a document by its id, with these names bound
abbrev pub document_with : List (List ℕ × Value) → List ℕ × Value → Environment
document_with bound e = record { id = Some e.0; doc = e.1; keys = []; bound = bound }

abbrev pub row_of_document : List ℕ × Value → InputRow
row_of_document e = record { env = document_with [] e; base = datum.Text e.0 ∷ [] }

-- the row with a name bound to the element at a place
abbrev pub with_element : List ℕ → InputRow → ℕ → Value → InputRow
with_element name row place v = record { env = inside name v row.env; base = row.base ++ datum.Int (pos place) ∷ [] }

-- a row for each element, from a place on
abbrev pub with_elements : List ℕ → InputRow → ℕ → List Datum → List InputRow
with_elements name row place [] = []
with_elements name row place (d ∷ ds) = with_element name row place (value_at d) ∷ with_elements name row (suc place) ds

-- A row for each element. Where there is none the row is dropped; LEFT keeps it, and the name stands for MISSING.
abbrev pub unnested_over : Unnest Expr → InputRow → List Datum → List InputRow
unnested_over u row [] = (if u.left then with_element u.name row 0 Missing ∷ [] else [])
unnested_over u row (d ∷ ds) = with_elements u.name row 0 (d ∷ ds)

-- over the elements of an array, and none of another value
abbrev pub unnested : Unnest Expr → InputRow → List InputRow
unnested u row = unnested_over u row (unwrap_or (array_in (value_of u.over row.env)) [])

-- each UNNEST in turn takes the place of each row
abbrev pub unnested_by : List (Unnest Expr) → List InputRow → List InputRow
unnested_by [] rows = rows
unnested_by (u ∷ us) rows = unnested_by us (flat_map (unnested u) rows)

-- a condition is TRUE, or there is none
abbrev pub meets : Option Expr → Environment → Bool
meets None env = true
meets (Some e) env = is_true (value_of e env)

-- the rows that a statement makes of these: each UNNEST in turn, and then those for which WHERE is TRUE
abbrev pub rows_from : Selection Expr → List InputRow → List InputRow
rows_from q rows = filter (λ (row : InputRow). meets q.filter row.env) (unnested_by q.unnests rows)

-- the rows of documents, which stand by their ids
abbrev pub rows_of : Selection Expr → List (List ℕ × Value) → List InputRow
rows_of q docs = rows_from q (map row_of_document docs)

-- the names of a statement's UNNESTs as they are bound in a row, the last one first
abbrev pub AreBoundBy : Selection Expr → List (List ℕ × Value) → Type 0
AreBoundBy q bound = map (λ (b : List ℕ × Value). b.0) bound ≡ reverse (unnest_names q.unnests)

-- whatever is bound to the names of the statement's UNNESTs, WHERE isn't TRUE on the document
abbrev pub IsRejected : Selection Expr → List ℕ × Value → Type 0
IsRejected q e = (bound : List (List ℕ × Value)) → AreBoundBy q bound → meets q.filter (document_with bound e) ≡ false
