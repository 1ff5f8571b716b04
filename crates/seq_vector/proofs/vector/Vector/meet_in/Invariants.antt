use Rattle.std.proofs.Common.{min}
use Rattle.seq_vector.proofs.PointwiseLemmas.{IsMadeBelow}
use Rattle.seq_vector.proofs.vector.Vector.meet_in.Given as goal

abbrev pub invariant-loop-vb : goal.invariant-loop-vb
invariant-loop-vb l = IsMadeBelow min l.self l.fn.self l.other l.vb
