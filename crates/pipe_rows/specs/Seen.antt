-- What a set of results holds.
use Rattle.std.specs.Prelude.{Bool}
use Rattle.std.specs.BTreeSet.{BTreeSet, contains}
use Rattle.std.specs.Ordering.{on}
use Rattle.n1ql_value.specs.declared.value.Value.{Value}
use Rattle.n1ql_value.specs.Collation.{value_cmp}
use Rattle.n1ql_value.specs.Datum.{datum_of}

abbrev pub has_seen : BTreeSet Value → Value → Bool
has_seen seen v = contains (on datum_of value_cmp) seen v
