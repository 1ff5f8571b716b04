use Rattle.std.proofs.Common.{max, refl, arith}
use Rattle.seq_vector.proofs.PointwiseLemmas.{made_all}
use Rattle.seq_vector.proofs.vector.Vector.join_in.Goals as goal

pub returns : goal.returns
returns c = made_all max _ _ _ _ refl c.requires c.loop-vb.invariant (omega arith)
