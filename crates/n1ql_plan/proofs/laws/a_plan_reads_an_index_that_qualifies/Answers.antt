use Rattle.n1ql_plan.proofs.Chosen.{planned}
use Rattle.n1ql_plan.proofs.laws.a_plan_reads_an_index_that_qualifies.Goals as goal

pub returns : goal.returns
returns c = planned
