use Rattle.n1ql_meaning.proofs.Alike.{aggregate_seen}
use Rattle.n1ql_meaning.proofs.laws.aggregates_of_what_is_shown.Goals as goal

pub returns : goal.returns
returns c = aggregate_seen
