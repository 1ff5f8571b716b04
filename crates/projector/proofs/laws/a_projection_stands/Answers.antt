use Rattle.projector.proofs.Ordered.{projection_stands}
use Rattle.projector.proofs.laws.a_projection_stands.Goals as goal

pub returns : goal.returns
returns c = projection_stands
