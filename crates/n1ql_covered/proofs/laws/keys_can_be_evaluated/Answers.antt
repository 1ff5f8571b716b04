use Rattle.n1ql_covered.proofs.Formed.{keys_formed}
use Rattle.n1ql_covered.proofs.laws.keys_can_be_evaluated.Goals as goal

pub returns : goal.returns
returns c = keys_formed
