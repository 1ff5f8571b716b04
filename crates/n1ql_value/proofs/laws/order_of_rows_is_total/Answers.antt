use Rattle.n1ql_value.proofs.RowLaws.{row_cmp-total}
use Rattle.n1ql_value.proofs.laws.order_of_rows_is_total.Goals as goal

pub returns : goal.returns
returns c = row_cmp-total
