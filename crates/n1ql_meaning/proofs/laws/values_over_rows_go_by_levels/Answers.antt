use Rattle.n1ql_meaning.proofs.Levels.{value_over-roll}
use Rattle.n1ql_meaning.proofs.laws.values_over_rows_go_by_levels.Goals as goal

pub returns : goal.returns
returns c = value_over-roll
