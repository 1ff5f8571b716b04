use Rattle.n1ql_ast.proofs.Readings.{constant_same}
use Rattle.n1ql_ast.proofs.laws.constants_have_one_value.Goals as goal

pub returns : goal.returns
returns c = constant_same
