use Rattle.std.proofs.Common.{[], ◌∷◌, refl}
use Rattle.scan_history.specs.Events.{not_yet}
use Rattle.scan_history.specs.Fold.{State, first_state, state_from}
use Rattle.scan_history.proofs.Steps.{legal_parts}
use Rattle.scan_history.proofs.Consistency.{consistent_first}
use Rattle.scan_history.proofs.Requests.{asks_from, answered_if_it_waits}
use Rattle.scan_history.proofs.laws.a_request_that_waits_is_answered.Goals as goal

pub returns : goal.returns
returns c script events d k have index spans ask legal there waiting =
    let some = c.texts_are_read_in_one_way.ensures.some in
    let first : State = first_state script.vbuckets in
    let s : State = state_from script.vbuckets first events in
    let parts = legal_parts some.0 script first events (not_yet d k have ∷ []) (legal some.0 some.1) in
    answered_if_it_waits c.below.ensures script s d k have index spans ask
    (asks_from c.below.ensures some.0 script first events d (consistent_first c.below.ensures script.vbuckets) parts.0 tt)
    there waiting parts.1.0.0 (s.client d).opened refl parts.1.0.1
