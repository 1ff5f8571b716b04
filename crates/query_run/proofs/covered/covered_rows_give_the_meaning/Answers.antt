use Rattle.query_run.proofs.Answered.{CoveredLaws, answered}
use Rattle.query_run.proofs.ById.{RowLaws}
use Rattle.query_run.proofs.covered.covered_rows_give_the_meaning.Goals as goal

pub returns : goal.returns
returns c =
    let rows : RowLaws = record {
      total = c.order_of_rows_is_total.ensures;
      alike = c.alike_rows_are_equal.ensures;
      ids = c.rows_carry_their_id.ensures;
      few = c.a_document_has_at_most_one_row_without_an_array_key.ensures;
      filters = c.filters_and_sorts_commute.ensures;
      exchange = c.insertions_commute.ensures.one;
    } in
    let covered : CoveredLaws = record {
      some = c.covered_statements_need_no_documents.ensures.some;
      none = c.covered_statements_need_no_documents.ensures.none;
      plain = c.covering_indexes_have_no_array_key.ensures;
      grouped = c.covered_statements_are_grouped_alike.ensures;
    } in
    answered rows covered
