use Rattle.n1ql_meaning.proofs.Computing.{levels}
use Rattle.n1ql_meaning.proofs.worked_results.order_by_a_given_name.Goals as goal

pub returns : goal.returns
returns c = simp levels
