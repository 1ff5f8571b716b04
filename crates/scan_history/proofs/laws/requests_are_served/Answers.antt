use Rattle.std.proofs.Common.{◌≡◌, List, ◌∷◌, ◌++◌, subst}
use Rattle.scan_history.specs.Events.{Event}
use Rattle.scan_history.specs.Fold.{first_state}
use Rattle.scan_history.specs.Legal.{IsLegalFrom}
use Rattle.scan_history.proofs.Served.{served_in}
use Rattle.scan_history.proofs.laws.requests_are_served.Goals as goal

pub returns : goal.returns
returns c script events sound legal before after e is =
    let some = c.texts_are_read_in_one_way.ensures.some in
    let whole : IsLegalFrom some.0 script (first_state script.vbuckets) (before ++ e ∷ after) =
    subst (IsLegalFrom some.0 script (first_state script.vbuckets)) is (legal some.0 some.1) in
    served_in c.below.ensures (record { first = c.join_is_least.ensures.covers_first; second = c.join_is_least.ensures.covers_second }) some.0 script sound before after e whole
