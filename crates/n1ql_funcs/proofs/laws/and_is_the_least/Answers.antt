use Rattle.n1ql_funcs.proofs.TruthLaws.{and-least}
use Rattle.n1ql_funcs.proofs.laws.and_is_the_least.Goals as goal

pub returns : goal.returns
returns c = and-least
