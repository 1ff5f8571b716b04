use Rattle.n1ql_covered.proofs.Covered.{without_arrays}
use Rattle.n1ql_covered.proofs.laws.covering_indexes_have_no_array_key.Goals as goal

pub returns : goal.returns
returns c = without_arrays
