-- Values and what contracts see of them inside an object.
use Rattle.std.proofs.Common.{◌≡◌}
use Rattle.n1ql_value.specs.declared.value.Value.{Value}
use Rattle.n1ql_value.specs.Datum.{datum_of, value_of, value_of-datum_of}

pub read_back : (v : Value) → value_of (datum_of v) ≡ v
read_back v = value_of-datum_of v
