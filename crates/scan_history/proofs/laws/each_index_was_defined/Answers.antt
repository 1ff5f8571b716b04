use Rattle.scan_history.specs.Fold.{first_state, state_after}
use Rattle.scan_history.proofs.Consistency.{consistent_first}
use Rattle.scan_history.proofs.Defined.{defined_from}
use Rattle.scan_history.proofs.laws.each_index_was_defined.Goals as goal

pub returns : goal.returns
unfolding state_after
returns c script events legal =
    let some = c.texts_are_read_in_one_way.ensures.some in
    defined_from c.below.ensures some.0 some.1 script (first_state script.vbuckets) events (consistent_first c.below.ensures script.vbuckets) (legal some.0 some.1) tt
