use Rattle.std.proofs.Common.{max}
use Rattle.seq_vector.proofs.PointwiseLemmas.{IsMadeBelow}
use Rattle.seq_vector.proofs.vector.Vector.join_in.Given as goal

abbrev pub invariant-loop-vb : goal.invariant-loop-vb
invariant-loop-vb l = IsMadeBelow max l.self l.fn.self l.other l.vb
