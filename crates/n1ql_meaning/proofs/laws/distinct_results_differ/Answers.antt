use Rattle.n1ql_meaning.proofs.Finishing.{all_there, distinct_differ, one_more}
use Rattle.n1ql_meaning.proofs.laws.distinct_results_differ.Goals as goal

pub returns-clause-differ : goal.returns-clause-differ
returns-clause-differ c = distinct_differ

pub returns-clause-all : goal.returns-clause-all
returns-clause-all c = all_there c.order_of_values_is_total.ensures

pub returns-clause-one_more : goal.returns-clause-one_more
returns-clause-one_more c = one_more c.order_of_values_is_total.ensures
