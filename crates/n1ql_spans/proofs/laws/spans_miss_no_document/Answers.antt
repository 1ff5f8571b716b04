use Rattle.n1ql_spans.proofs.LawOfSpans.{law_of_spans}
use Rattle.n1ql_spans.proofs.LawsBelow.{OrderLaws, TreeLaws}
use Rattle.n1ql_spans.proofs.laws.spans_miss_no_document.Goals as goal

pub returns : goal.returns
returns c =
    let order : OrderLaws = record {
      total = c.order_of_values_is_total.ensures;
      exact = c.alike_values_are_equal.ensures;
      by_layer = c.order_by_cases.ensures;
      exact_rows = c.alike_rows_are_equal.ensures;
    } in
    let trees : TreeLaws = record {
      same = c.same_trees_are_equal.ensures;
      constant = c.constants_have_one_value.ensures;
      closed = c.closed_expressions_read_no_other_names.ensures;
      conjuncts = c.conjuncts_are_the_condition.ensures;
    } in
    λ def formed q some id doc bound h. law_of_spans order trees id doc bound def formed q some h
