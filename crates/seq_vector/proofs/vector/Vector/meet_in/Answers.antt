use Rattle.std.proofs.Common.{min, refl, arith}
use Rattle.seq_vector.proofs.PointwiseLemmas.{made_all}
use Rattle.seq_vector.proofs.vector.Vector.meet_in.Goals as goal

pub returns : goal.returns
returns c = made_all min _ _ _ _ refl c.requires c.loop-vb.invariant (omega arith)
