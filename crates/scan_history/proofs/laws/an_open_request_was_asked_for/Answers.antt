use Rattle.std.proofs.Common.{◌≡◌, ℕ, List, length, ◌∙◌, subst}
use Rattle.scan_history.specs.declared.script.Script.{Script}
use Rattle.scan_history.specs.Events.{Event}
use Rattle.scan_history.specs.Fold.{started, State, first_state, state_from, state_after}
use Rattle.scan_history.specs.Readings.{Read}
use Rattle.scan_history.specs.Legal.{IsLegalFrom}
use Rattle.scan_history.specs.Consistent.{IsConsistent}
use Rattle.scan_history.specs.Requests.{IsAsked}
use Rattle.scan_history.specs.Sound.{IsSound}
use Rattle.scan_history.specs.inner.Known.{Known}
use Rattle.scan_history.proofs.Consistency.{consistent_first, consistent_from}
use Rattle.scan_history.proofs.Requests as requests
use Rattle.scan_history.proofs.laws.an_open_request_was_asked_for.Goals as goal

module _ (known : Known) (read : List ℕ → Read) (script : Script) (events : List Event) (c i : ℕ) (demand since : List ℕ) (legal : IsLegalFrom read script (first_state script.vbuckets) events) where
  abbrev s : State
  s = state_from script.vbuckets (first_state script.vbuckets) events

  asked : (s.client c).opened ≡ started i demand since → IsAsked script c (s.client c) demand since
  asked is =
      subst (requests.Asks script c (s.client c)) is
      (requests.asks_from known read script (first_state script.vbuckets) events c (consistent_first known script.vbuckets) legal tt)

  size : IsSound script → (s.client c).opened ≡ started i demand since → length demand ≡ script.vbuckets
  size sound is =
      let holds : IsConsistent script.vbuckets s = consistent_from known read script (first_state script.vbuckets) events (consistent_first known script.vbuckets) legal in
      requests.demand_size known script c (s.client c) demand since sound ((holds.client c).seen.size ∙ known.high_size script.vbuckets s.log) (asked is)

pub returns-clause-asked : goal.returns-clause-asked
unfolding state_after
returns-clause-asked c script events d i demand since legal =
    let some = c.texts_are_read_in_one_way.ensures.some in
    asked c.below.ensures some.0 script events d i demand since (legal some.0 some.1)

pub returns-clause-size : goal.returns-clause-size
unfolding state_after
returns-clause-size c script events d i demand since sound legal =
    let some = c.texts_are_read_in_one_way.ensures.some in
    size c.below.ensures some.0 script events d i demand since (legal some.0 some.1) sound

pub returns-clause-within : goal.returns-clause-within
returns-clause-within c = requests.within
