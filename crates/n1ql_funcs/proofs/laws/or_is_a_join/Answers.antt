use Rattle.n1ql_funcs.proofs.TruthLaws.{or-commutes, or-associates, or-absorbs}
use Rattle.n1ql_funcs.proofs.laws.or_is_a_join.Goals as goal

pub returns : goal.returns
returns c = record { commutes = or-commutes; associates = or-associates; absorbs = or-absorbs }
