use Rattle.dcp_stream.proofs.Lowering.{IsLoweredBelow}
use Rattle.dcp_stream.proofs.position.lower.Given as goal

abbrev pub invariant-loop-vb : goal.invariant-loop-vb
invariant-loop-vb l = IsLoweredBelow l.at l.to l.fn.numbers l.numbers l.vb
