use Rattle.gsi_sched.specs.Machine.{first_machine}
use Rattle.gsi_sched.proofs.SlotsOfReplays.{first_has, turns_have, turn_has, end_has, replay_has}
use Rattle.gsi_sched.proofs.WholeReplays.{first_runs}
use Rattle.gsi_sched.proofs.heart.workers_stand_through_every_step.Goals as goal

pub returns-clause-steps : goal.returns-clause-steps
returns-clause-steps c read script turns are sound are_turns =
    turns_have c.below.ensures c.stood.ensures script sound read are turns (first_machine script.vbuckets) are_turns
    (first_runs c.below.ensures script) (first_has c.below.ensures c.stood.ensures script sound read are)

pub returns-clause-whole : goal.returns-clause-whole
returns-clause-whole c read script are sound = replay_has c.below.ensures c.stood.ensures script sound read are

pub returns-clause-step : goal.returns-clause-step
returns-clause-step c read script m turn are sound is runs has = turn_has c.below.ensures c.stood.ensures script sound read are m turn is runs has

pub returns-clause-end : goal.returns-clause-end
returns-clause-end c read script m are sound runs has = end_has c.below.ensures c.stood.ensures script sound read are m runs has
