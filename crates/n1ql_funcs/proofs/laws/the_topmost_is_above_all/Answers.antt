use Rattle.n1ql_funcs.proofs.TopmostLaws.{topmost-is, topmost-there}
use Rattle.n1ql_funcs.proofs.laws.the_topmost_is_above_all.Goals as goal

pub returns : goal.returns
returns c = record { there = topmost-there; above = λ R ds top o e. topmost-is o ds top e }
