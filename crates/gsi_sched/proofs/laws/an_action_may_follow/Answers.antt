use Rattle.gsi_sched.specs.ClientActions.{awaited_by, caught_up}
use Rattle.gsi_sched.proofs.CatchUps.{caught_one}
use Rattle.gsi_sched.proofs.ClientSteps.{awaited_work, caught_for, next_may}
use Rattle.gsi_sched.proofs.laws.an_action_may_follow.Goals as goal

pub returns-clause-awaited : goal.returns-clause-awaited
returns-clause-awaited c read script m d runs = awaited_work c.below.ensures script read m d runs

pub returns-clause-caught_up : goal.returns-clause-caught_up
returns-clause-caught_up c read script m i are runs works = (caught_one c.below.ensures script read are m i runs works).0

pub returns-clause-published : goal.returns-clause-published
returns-clause-published c read script m i are runs works = (caught_one c.below.ensures script read are m i runs works).2

pub returns-clause-next : goal.returns-clause-next
returns-clause-next c read script m d e are sound runs is =
    next_may c.below.ensures script sound read are m (caught_up script.vbuckets (awaited_by read script d m) m) d e runs (caught_for c.below.ensures script sound read are m d runs) is
