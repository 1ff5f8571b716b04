use Rattle.n1ql_value.specs.inner.CollationLaws.{value_cmp-exact}
use Rattle.n1ql_value.proofs.laws.alike_values_are_equal.Goals as goal

pub returns : goal.returns
returns c = value_cmp-exact
