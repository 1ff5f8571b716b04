use Rattle.gsi_sched.proofs.WholeReplays.{history_is_legal}
use Rattle.gsi_sched.proofs.laws.the_replay_is_legal.Goals as goal

pub returns : goal.returns
returns c read script are sound = history_is_legal c.below.ensures script sound read are
