use Rattle.n1ql_meaning.proofs.Computing.{levels}
use Rattle.n1ql_meaning.proofs.worked_results.what_aggregates_pass_over.Goals as goal

pub returns : goal.returns
returns c = simp levels
