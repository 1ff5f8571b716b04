use Rattle.std.proofs.lemmas.Grind.{common_steps}
use Rattle.std.proofs.Common.{arith}
use Rattle.seq_vector.specs.Vectors.{fnv1a}
use Rattle.seq_vector.proofs.vbucket.fnv1a_of.Goals as goal

pub returns : goal.returns
unfolding fnv1a
returns c = grind (arith, common_steps)
