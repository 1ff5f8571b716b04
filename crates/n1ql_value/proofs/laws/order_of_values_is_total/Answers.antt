use Rattle.n1ql_value.specs.inner.CollationLaws.{value_cmp-total}
use Rattle.n1ql_value.proofs.laws.order_of_values_is_total.Goals as goal

pub returns : goal.returns
returns c = value_cmp-total
