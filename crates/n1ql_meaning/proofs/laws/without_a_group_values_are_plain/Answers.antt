use Rattle.n1ql_meaning.proofs.Levels.{plain_outside}
use Rattle.n1ql_meaning.proofs.laws.without_a_group_values_are_plain.Goals as goal

pub returns : goal.returns
returns c = plain_outside
