use Rattle.index_def.proofs.OneRow.{keys_at_most_one}
use Rattle.index_def.proofs.laws.a_document_has_at_most_one_row_without_an_array_key.Goals as goal

pub returns : goal.returns
returns c = keys_at_most_one
