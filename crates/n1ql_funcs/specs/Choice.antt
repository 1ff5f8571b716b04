-- One step of the search for the topmost of values.
use Rattle.std.specs.Prelude.{Option, if◌then◌else◌}
use Rattle.std.specs.declared.cmp.Ordering.{Ordering}
use Rattle.n1ql_value.specs.declared.datum.Datum.{Datum}
use Rattle.n1ql_value.specs.declared.value.Value.{Value}
use Rattle.n1ql_value.specs.Datum.{datum_of}
use Rattle.n1ql_value.specs.Kinds.{is_valued}
use Rattle.n1ql_value.specs.FunctionValues.{higher}

-- a value that is MISSING or NULL changes nothing
abbrev pub higher_valued : (Datum → Datum → Ordering) → Option Datum → Value → Option Datum
higher_valued R found v = (if is_valued v then higher R found (datum_of v) else found)
