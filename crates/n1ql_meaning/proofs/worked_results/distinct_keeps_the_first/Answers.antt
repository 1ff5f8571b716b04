use Rattle.std.proofs.Common.{◌≡◌, pos, true, false, not, cond, [], ◌∷◌, filter, map, ap, ◌∙◌}
use Rattle.n1ql_value.specs.declared.value.Value.TheVariants.{Int}
use Rattle.n1ql_meaning.specs.Finish.{finished, first_of_each, in_order, is_same_result}
use Rattle.n1ql_meaning.specs.Results.{PlacedResult, placed_result, subjects_of}
use Rattle.n1ql_meaning.specs.Rows.{rows_of}
use Rattle.n1ql_meaning.specs.WorkedForms.{number, string}
use Rattle.n1ql_meaning.specs.WorkedResults.{distinct_keeps_the_first as worked}
use Rattle.n1ql_meaning.proofs.Computing.{levels}
use Rattle.n1ql_meaning.proofs.worked_results.distinct_keeps_the_first.Goals as goal

-- what the three documents give
abbrev a : PlacedResult
a = record { result = Int (pos 1); order = number (pos 1) ∷ []; base = string "a" ∷ [] }

abbrev b : PlacedResult
b = record { result = Int (pos 2); order = number (pos 2) ∷ []; base = string "b" ∷ [] }

abbrev c : PlacedResult
c = record { result = Int (pos 1); order = number (pos 3) ∷ []; base = string "c" ∷ [] }

given : map (placed_result worked.statement) (subjects_of worked.statement (rows_of worked.statement worked.documents)) ≡ a ∷ b ∷ c ∷ []
given = simp levels

a_b : is_same_result a b ≡ false
a_b = simp levels

a_c : is_same_result a c ≡ true
a_c = simp levels

b_c : is_same_result b c ≡ false
b_c = simp levels

the_firsts : first_of_each (a ∷ b ∷ c ∷ []) ≡ a ∷ b ∷ []
the_firsts =
    ap (λ so. a ∷ filter (λ r. not (is_same_result a r)) (b ∷ cond (not so) (c ∷ []) [])) b_c
    ∙ (ap (λ so. a ∷ cond (not so) (b ∷ filter (λ r. not (is_same_result a r)) (c ∷ [])) (filter (λ r. not (is_same_result a r)) (c ∷ []))) a_b
    ∙ ap (λ so. a ∷ b ∷ cond (not so) (c ∷ []) []) a_c)

the_last_steps : map (λ (r : PlacedResult). r.result) (in_order worked.statement.orders (a ∷ b ∷ [])) ≡ worked.results
the_last_steps = simp levels

pub returns : goal.returns
returns x =
    ap (finished worked.statement) given
    ∙ (ap (λ rs. map (λ (r : PlacedResult). r.result) (in_order worked.statement.orders rs)) the_firsts ∙ the_last_steps)
