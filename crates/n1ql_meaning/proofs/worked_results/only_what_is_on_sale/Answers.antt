use Rattle.n1ql_meaning.proofs.Computing.{levels}
use Rattle.n1ql_meaning.proofs.worked_results.only_what_is_on_sale.Goals as goal

pub returns : goal.returns
returns c = simp levels
