use Rattle.n1ql_meaning.proofs.Computing.{levels}
use Rattle.n1ql_meaning.proofs.worked_results.a_term_s_own_name_is_no_given_one.Goals as goal

pub returns : goal.returns
returns c = simp levels
