use Rattle.std.proofs.Common.{refl, arith}
use Rattle.scan_history.specs.Fold.{first_state, state_after}
use Rattle.scan_history.proofs.Consistency.{consistent_first}
use Rattle.scan_history.proofs.Commands.{within_from}
use Rattle.scan_history.proofs.laws.commands_come_in_order.Goals as goal

pub returns : goal.returns
unfolding state_after
returns c script events d legal =
    let some = c.texts_are_read_in_one_way.ensures.some in
    within_from c.below.ensures some.0 script (first_state script.vbuckets) events (consistent_first c.below.ensures script.vbuckets)
    (λ e. record { closed = omega arith; opened = λ busy. absurd (busy refl) }) (legal some.0 some.1) d
