use Rattle.pipe_rows.proofs.Formed.{evaluable}
use Rattle.pipe_rows.proofs.laws.formed_statements_can_be_evaluated.Goals as goal

pub returns : goal.returns
returns c = evaluable
