use Rattle.n1ql_funcs.proofs.TruthLaws.{and-commutes, and-associates, and-absorbs}
use Rattle.n1ql_funcs.proofs.laws.and_is_a_meet.Goals as goal

pub returns : goal.returns
returns c = record { commutes = and-commutes; associates = and-associates; absorbs = and-absorbs }
