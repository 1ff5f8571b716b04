use Rattle.n1ql_ast.proofs.Conjuncts.{splits}
use Rattle.n1ql_ast.proofs.laws.conjuncts_are_the_condition.Goals as goal

pub returns : goal.returns
returns c = splits
