use Rattle.n1ql_funcs.proofs.TruthLaws.{or-greatest}
use Rattle.n1ql_funcs.proofs.laws.or_is_the_greatest.Goals as goal

pub returns : goal.returns
returns c = or-greatest
