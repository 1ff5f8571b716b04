use Rattle.n1ql_ast.proofs.Bound.{resolved-bound}
use Rattle.n1ql_ast.proofs.laws.resolved_variables_are_bound.Goals as goal

pub returns : goal.returns
returns c = resolved-bound
