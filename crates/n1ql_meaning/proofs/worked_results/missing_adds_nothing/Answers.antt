use Rattle.n1ql_meaning.proofs.Computing.{levels}
use Rattle.n1ql_meaning.proofs.worked_results.missing_adds_nothing.Goals as goal

pub returns : goal.returns
returns c = simp levels
