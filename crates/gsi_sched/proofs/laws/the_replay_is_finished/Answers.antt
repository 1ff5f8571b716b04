use Rattle.gsi_sched.proofs.Finishing.{history_is_finished}
use Rattle.gsi_sched.proofs.laws.the_replay_is_finished.Goals as goal

pub returns : goal.returns
returns c read script are sound = history_is_finished c.below.ensures script sound read are
