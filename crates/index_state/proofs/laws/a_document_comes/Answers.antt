use Rattle.index_state.proofs.StateLemmas.{HoldsKeys-insert}
use Rattle.index_state.proofs.laws.a_document_comes.Goals as goal

pub returns : goal.returns
returns c = HoldsKeys-insert
