use Rattle.n1ql_spans.proofs.FormedConjuncts.{conjuncts_well_formed}
use Rattle.n1ql_spans.proofs.laws.conjuncts_are_well_formed.Goals as goal

pub returns : goal.returns
returns c = conjuncts_well_formed
