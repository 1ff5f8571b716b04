use Rattle.n1ql_meaning.proofs.Computing.{levels}
use Rattle.n1ql_meaning.proofs.worked_results.the_first_by_id.Goals as goal

pub returns : goal.returns
returns c = simp levels
