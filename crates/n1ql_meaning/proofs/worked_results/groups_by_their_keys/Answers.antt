use Rattle.n1ql_meaning.proofs.Computing.{levels}
use Rattle.n1ql_meaning.proofs.worked_results.groups_by_their_keys.Goals as goal

pub returns : goal.returns
returns c = simp levels
