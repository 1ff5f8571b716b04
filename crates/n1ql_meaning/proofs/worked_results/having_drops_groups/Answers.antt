use Rattle.n1ql_meaning.proofs.Computing.{levels}
use Rattle.n1ql_meaning.proofs.worked_results.having_drops_groups.Goals as goal

pub returns : goal.returns
returns c = simp levels
