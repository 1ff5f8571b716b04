use Rattle.n1ql_meaning.proofs.Computing.{levels}
use Rattle.n1ql_meaning.proofs.worked_results.an_aggregate_inside_a_frame.Goals as goal

pub returns : goal.returns
returns c = simp levels
