use Rattle.std.proofs.Common.{refl}
use Rattle.seq_vector.specs.Vectors.{fnv1a}
use Rattle.scan_history.specs.Fold.{state_after}
use Rattle.gsi_sched.specs.Replay.{history_of}
use Rattle.gsi_sched.proofs.worked_replays.four_vbuckets.Goals as goal

pub returns : goal.returns
unfolding history_of state_after fnv1a
returns c doc = refl
