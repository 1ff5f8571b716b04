-- The value that a truth is.
use Rattle.std.specs.Prelude.{true, false}
use Rattle.n1ql_value.specs.declared.value.Value.{Value}
use Rattle.n1ql_value.specs.declared.value.Value.TheVariants as value
use Rattle.n1ql_funcs.specs.declared.truth.Truth.{Truth}
use Rattle.n1ql_funcs.specs.declared.truth.Truth.TheVariants.{Missing, Null, No, Yes}

abbrev pub truth_value : Truth → Value
truth_value Missing = value.Missing
truth_value Null = value.Null
truth_value No = value.Bool false
truth_value Yes = value.Bool true
