use Rattle.std.proofs.Common.{[], ◌∷◌}
use Rattle.scan_history.specs.Fold.{first_state, state_after}
use Rattle.scan_history.proofs.Steps.{state_from-append, legal_whole, legal_parts}
use Rattle.scan_history.proofs.laws.one_more.Goals as goal

pub returns-clause-state : goal.returns-clause-state
unfolding state_after
returns-clause-state c n events e = state_from-append n (first_state n) events (e ∷ [])

pub returns-clause-legal : goal.returns-clause-legal
unfolding state_after
returns-clause-legal c script events e = (
  λ legal. (
    λ read are. (legal_parts read script (first_state script.vbuckets) events (e ∷ []) (legal read are)).0,
    λ read are. (legal_parts read script (first_state script.vbuckets) events (e ∷ []) (legal read are)).1.0,
  ),
  λ both read are. legal_whole read script (first_state script.vbuckets) events (e ∷ []) (both.0 read are) (both.1 read are, tt),
)
