use Rattle.index_state.proofs.StateLemmas.{all_rows_are_index}
use Rattle.index_state.proofs.laws.rows_are_the_index.Goals as goal

pub returns : goal.returns
returns c = all_rows_are_index
