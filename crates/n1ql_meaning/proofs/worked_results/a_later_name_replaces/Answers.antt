use Rattle.std.specs.Fmt.{digits}
use Rattle.n1ql_meaning.proofs.Computing.{levels}
use Rattle.n1ql_meaning.proofs.worked_results.a_later_name_replaces.Goals as goal

pub returns : goal.returns
unfolding digits
returns c = simp levels
