use Rattle.n1ql_value.specs.inner.CollationByCases.{value_cmp-by_layer}
use Rattle.n1ql_value.proofs.laws.order_by_cases.Goals as goal

pub returns : goal.returns
returns c = value_cmp-by_layer
