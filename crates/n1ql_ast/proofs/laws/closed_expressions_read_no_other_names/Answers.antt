use Rattle.n1ql_ast.proofs.Readings.{closed_same}
use Rattle.n1ql_ast.proofs.laws.closed_expressions_read_no_other_names.Goals as goal

pub returns : goal.returns
returns c = closed_same
