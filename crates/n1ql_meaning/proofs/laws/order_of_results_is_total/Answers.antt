use Rattle.n1ql_meaning.proofs.Finishing.{placed_total}
use Rattle.n1ql_meaning.proofs.laws.order_of_results_is_total.Goals as goal

pub returns : goal.returns
returns c = placed_total c.order_of_values_is_total.ensures
