use Rattle.std.proofs.Common.{arith}
use Rattle.dcp_stream.proofs.Lowering.{lowered_all}
use Rattle.dcp_stream.proofs.position.lower.Goals as goal

pub returns : goal.returns
returns c =
    let numbers = c.requires.numbers in
    lowered_all c.args.at.now c.args.to.now c.args.numbers.now c.loop-vb.numbers c.loop-vb.vb c.loop-vb.invariant (omega arith)
