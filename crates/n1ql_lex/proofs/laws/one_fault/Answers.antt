use Rattle.n1ql_lex.proofs.OneCut.{fault-same}
use Rattle.n1ql_lex.proofs.laws.one_fault.Goals as goal

pub returns : goal.returns
returns c = fault-same
