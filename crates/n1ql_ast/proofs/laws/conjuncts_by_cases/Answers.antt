use Rattle.n1ql_ast.proofs.Conjuncts.{conjuncts_of-And, conjuncts_of-other}
use Rattle.n1ql_ast.proofs.laws.conjuncts_by_cases.Goals as goal

pub returns-clause-and : goal.returns-clause-and
returns-clause-and c = conjuncts_of-And

pub returns-clause-other : goal.returns-clause-other
returns-clause-other c = conjuncts_of-other
