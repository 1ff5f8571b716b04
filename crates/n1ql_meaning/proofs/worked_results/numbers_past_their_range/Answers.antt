use Rattle.n1ql_meaning.proofs.Computing.{levels}
use Rattle.n1ql_meaning.proofs.worked_results.numbers_past_their_range.Goals as goal

pub returns : goal.returns
returns c = simp levels
