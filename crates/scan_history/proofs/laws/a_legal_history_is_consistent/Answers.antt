use Rattle.scan_history.specs.Fold.{first_state, state_after}
use Rattle.scan_history.proofs.Consistency.{consistent_first, consistent_from}
use Rattle.scan_history.proofs.laws.a_legal_history_is_consistent.Goals as goal

pub returns : goal.returns
unfolding state_after
returns c script events legal =
    let some = c.texts_are_read_in_one_way.ensures.some in
    consistent_from c.below.ensures some.0 script (first_state script.vbuckets) events (consistent_first c.below.ensures script.vbuckets) (legal some.0 some.1)
