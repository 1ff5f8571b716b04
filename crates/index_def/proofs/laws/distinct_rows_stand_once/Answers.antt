use Rattle.index_def.proofs.RowsOfDocument.{keys_once}
use Rattle.index_def.proofs.laws.distinct_rows_stand_once.Goals as goal

pub returns : goal.returns
returns c = keys_once
