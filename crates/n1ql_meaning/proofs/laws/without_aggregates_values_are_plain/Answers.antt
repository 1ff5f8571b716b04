use Rattle.n1ql_meaning.proofs.Levels.{plain_without}
use Rattle.n1ql_meaning.proofs.laws.without_aggregates_values_are_plain.Goals as goal

pub returns : goal.returns
returns c = plain_without
