use Rattle.n1ql_meaning.proofs.Computing.{levels}
use Rattle.n1ql_meaning.proofs.worked_results.a_sum_past_the_range.Goals as goal

pub returns : goal.returns
returns c = simp levels
