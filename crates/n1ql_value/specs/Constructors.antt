-- Arrays and objects made of the values of their parts.
use Rattle.std.specs.Prelude.{ℕ, List, [], map, if◌then◌else◌}
use Rattle.std.specs.List.{fold}
use Rattle.n1ql_value.specs.declared.datum.Datum.{Datum}
use Rattle.n1ql_value.specs.declared.datum.Datum.TheVariants as datum
use Rattle.n1ql_value.specs.declared.value.Value.{Value}
use Rattle.n1ql_value.specs.declared.value.Value.TheVariants.{Array, Object}
use Rattle.n1ql_value.specs.Datum.{value_of}
use Rattle.n1ql_value.specs.Names.{with_pair}
use Rattle.n1ql_value.specs.Kinds.{is_missing}

-- in an array MISSING becomes NULL
abbrev pub null_for_missing : Datum → Datum
null_for_missing d = (if is_missing (value_of d) then datum.Null else d)

abbrev pub array_of : List Datum → Value
array_of ds = Array (map null_for_missing ds)

-- in an object a pair whose value is MISSING is left out, and a later pair takes the place of an earlier one of its name
abbrev pub with_given : List (List ℕ × Datum) → List ℕ × Datum → List (List ℕ × Datum)
with_given ps p = (if is_missing (value_of p.1) then ps else with_pair p.0 p.1 ps)

abbrev pub object_of : List (List ℕ × Datum) → Value
object_of ps = Object (fold with_given [] ps)
