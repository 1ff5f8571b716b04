use Rattle.n1ql_value.proofs.RowLaws.{row_cmp-exact}
use Rattle.n1ql_value.proofs.laws.alike_rows_are_equal.Goals as goal

pub returns : goal.returns
returns c = row_cmp-exact
