use Rattle.index_def.proofs.RowsOfDocument.{keys_in_order}
use Rattle.index_def.proofs.laws.rows_stand_in_order.Goals as goal

pub returns : goal.returns
returns c = keys_in_order
