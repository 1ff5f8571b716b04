use Rattle.n1ql_expr.proofs.ByCases.{between_compares}
use Rattle.n1ql_expr.proofs.laws.between_is_two_comparisons.Goals as goal

pub returns : goal.returns
returns c = between_compares
