-- The place of a value's type in the order of types.
use Rattle.std.specs.Prelude.{ℕ}
use Rattle.n1ql_value.specs.declared.value.Value.{Value}
use Rattle.n1ql_value.specs.Datum.{layer_of}
use Rattle.n1ql_value.specs.Layers.{class_of}

abbrev pub rank_of : Value → ℕ
rank_of v = class_of (layer_of v)
