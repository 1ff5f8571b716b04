use Rattle.n1ql_funcs.proofs.TruthLaws.{not-middle}
use Rattle.n1ql_funcs.proofs.laws.not_exchanges_the_ends.Goals as goal

pub returns-clause-middle : goal.returns-clause-middle
returns-clause-middle c = not-middle
