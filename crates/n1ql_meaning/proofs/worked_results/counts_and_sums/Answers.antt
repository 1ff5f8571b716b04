use Rattle.std.proofs.Common.{◌≡◌, ℕ, pos, List, [], ◌∷◌, map, ap, ◌∙◌}
use Rattle.n1ql_value.specs.declared.value.Value.{Value}
use Rattle.n1ql_meaning.specs.Meaning.{results_of_rows}
use Rattle.n1ql_meaning.specs.Rows.{row_of_document, rows_of}
use Rattle.n1ql_meaning.specs.WorkedForms.{by_id, number, pair, string}
use Rattle.n1ql_meaning.specs.WorkedGroups.{counts_and_sums}
use Rattle.n1ql_meaning.proofs.Computing.{levels}
use Rattle.n1ql_meaning.proofs.worked_results.counts_and_sums.Goals as goal

-- those for which WHERE is TRUE
abbrev kept : List (List ℕ × Value)
kept =
    by_id "o1" (pair "cust" (string "ann") ∷ pair "kind" (string "order") ∷ pair "total" (number (pos 70)) ∷ []) ∷ by_id "o2" (pair "cust" (string "bob") ∷ pair "kind" (string "order") ∷ pair "total" (number (pos 30)) ∷ []) ∷ by_id "o3" (pair "cust" (string "ann") ∷ pair "kind" (string "order") ∷ pair "total" (number (pos 20)) ∷ []) ∷ []

the_rows : rows_of counts_and_sums.statement counts_and_sums.documents ≡ map row_of_document kept
the_rows = simp levels

their_results : results_of_rows counts_and_sums.statement (map row_of_document kept) ≡ counts_and_sums.results
their_results = simp levels

pub returns : goal.returns
returns c = ap (results_of_rows counts_and_sums.statement) the_rows ∙ their_results
