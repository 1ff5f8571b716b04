use Rattle.n1ql_covered.proofs.Conditions.{ConjunctLaws}
use Rattle.n1ql_covered.proofs.Covered.{MeaningLaws, no_rows, some_rows}
use Rattle.n1ql_covered.proofs.Reading.{TreeLaws}
use Rattle.n1ql_covered.proofs.laws.covered_statements_need_no_documents.Goals as goal

pub returns-clause-some : goal.returns-clause-some
returns-clause-some c =
    let trees : TreeLaws = record { same = c.same_trees_are_equal.ensures; closed = c.closed_expressions_read_no_other_names.ensures } in
    let conjuncts : ConjunctLaws = record { condition = c.conjuncts_are_the_condition.ensures; both_operands = c.conjuncts_by_cases.ensures.and } in
    let laws : MeaningLaws = record {
      spans = c.spans_miss_no_document.ensures;
      rejected = c.rejected_documents_have_no_rows.ensures;
      left_out = c.documents_without_rows_can_be_left_out.ensures.results;
      alike_rows = c.statements_that_read_alike_give_the_same_results.ensures.rows;
      alike_some = c.statements_that_read_alike_give_the_same_results.ensures.some;
    } in
    λ def formed q fit fits covered docs row rows is. some_rows trees conjuncts laws def formed q fit fits covered docs row rows is

pub returns-clause-none : goal.returns-clause-none
returns-clause-none c =
    let trees : TreeLaws = record { same = c.same_trees_are_equal.ensures; closed = c.closed_expressions_read_no_other_names.ensures } in
    let conjuncts : ConjunctLaws = record { condition = c.conjuncts_are_the_condition.ensures; both_operands = c.conjuncts_by_cases.ensures.and } in
    let laws : MeaningLaws = record {
      spans = c.spans_miss_no_document.ensures;
      rejected = c.rejected_documents_have_no_rows.ensures;
      left_out = c.documents_without_rows_can_be_left_out.ensures.results;
      alike_rows = c.statements_that_read_alike_give_the_same_results.ensures.rows;
      alike_some = c.statements_that_read_alike_give_the_same_results.ensures.some;
    } in
    λ def formed q fit fits covered docs is. no_rows trees conjuncts laws def formed q fit fits covered docs is
