use Rattle.n1ql_meaning.proofs.Computing.{levels}
use Rattle.n1ql_meaning.proofs.worked_results.left_keeps_a_row.Goals as goal

pub returns : goal.returns
returns c = simp levels
