use Rattle.gsi_sched.proofs.ClientSteps.{act_keeps}
use Rattle.gsi_sched.proofs.WholeReplays.{first_runs, turn_keeps, caught_at_the_end}
use Rattle.gsi_sched.proofs.laws.each_step_keeps_the_machine_running.Goals as goal

pub returns-clause-first : goal.returns-clause-first
returns-clause-first c script = first_runs c.below.ensures script

pub returns-clause-turn : goal.returns-clause-turn
returns-clause-turn c read script m turn are sound is runs = turn_keeps c.below.ensures script sound read are m turn is runs

pub returns-clause-action : goal.returns-clause-action
returns-clause-action c read script m d are sound runs = act_keeps c.below.ensures script sound read are m d runs

pub returns-clause-end : goal.returns-clause-end
returns-clause-end c read script m are sound runs = (caught_at_the_end c.below.ensures script sound read are m runs).0
