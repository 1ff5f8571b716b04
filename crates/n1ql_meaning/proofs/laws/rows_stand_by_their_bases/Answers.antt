use Rattle.n1ql_meaning.proofs.InOrder.{already_in_order, rows_in_order, subjects_in_order}
use Rattle.n1ql_meaning.proofs.laws.rows_stand_by_their_bases.Goals as goal

pub returns-clause-rows : goal.returns-clause-rows
returns-clause-rows c = rows_in_order c.order_of_values_is_total.ensures c.order_by_cases.ensures

pub returns-clause-subjects : goal.returns-clause-subjects
returns-clause-subjects c = subjects_in_order c.order_of_values_is_total.ensures c.order_by_cases.ensures

pub returns-clause-results : goal.returns-clause-results
returns-clause-results c = already_in_order
