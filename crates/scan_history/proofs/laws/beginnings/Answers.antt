use Rattle.scan_history.specs.Fold.{first_state, state_after}
use Rattle.scan_history.proofs.Steps.{state_from-append, legal_parts}
use Rattle.scan_history.proofs.laws.beginnings.Goals as goal

pub returns-clause-state : goal.returns-clause-state
unfolding state_after
returns-clause-state c n events more = state_from-append n (first_state n) events more

pub returns-clause-legal : goal.returns-clause-legal
returns-clause-legal c script events more legal read are = (legal_parts read script (first_state script.vbuckets) events more (legal read are)).0
