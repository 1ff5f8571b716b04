use Rattle.index_state.proofs.StateLemmas.{HoldsKeys-empty}
use Rattle.index_state.proofs.laws.nothing_is_the_index_of_nothing.Goals as goal

pub returns : goal.returns
returns c = HoldsKeys-empty
