use Rattle.n1ql_meaning.proofs.Computing.{levels}
use Rattle.n1ql_meaning.proofs.worked_results.the_names_of_unnests_are_spread.Goals as goal

pub returns : goal.returns
returns c = simp levels
