use Rattle.std.proofs.Common.{◌≡◌, [], ◌∷◌, false, ap}
use Rattle.std.proofs.lemmas.List.Elements.{recursion_from_All}
use Rattle.n1ql_meaning.specs.Meaning.{results_of_rows}
use Rattle.n1ql_meaning.specs.Rows.{rows_of}
use Rattle.n1ql_meaning.proofs.RowsByDocument.{left_out}
use Rattle.n1ql_meaning.proofs.laws.documents_without_rows_can_be_left_out.Goals as goal

pub returns-clause-rows : goal.returns-clause-rows
returns-clause-rows c q keep docs h = left_out q keep docs (recursion_from_All (λ e. keep e ≡ false → rows_of q (e ∷ []) ≡ []) docs h)

pub returns-clause-results : goal.returns-clause-results
returns-clause-results c q keep docs h = ap (results_of_rows q) (returns-clause-rows c q keep docs h)
