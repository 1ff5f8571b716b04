use Rattle.scan_history.proofs.FirstActions.{first_may_follow}
use Rattle.scan_history.proofs.laws.a_first_action_may_follow.Goals as goal

pub returns : goal.returns
returns c = first_may_follow
