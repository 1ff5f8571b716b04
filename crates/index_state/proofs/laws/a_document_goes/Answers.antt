use Rattle.index_state.proofs.StateLemmas.{HoldsKeys-remove}
use Rattle.index_state.proofs.laws.a_document_goes.Goals as goal

pub returns : goal.returns
returns c = HoldsKeys-remove
