use Rattle.n1ql_meaning.proofs.Computing.{levels}
use Rattle.n1ql_meaning.proofs.worked_results.the_second_of_three.Goals as goal

pub returns : goal.returns
returns c = simp levels
