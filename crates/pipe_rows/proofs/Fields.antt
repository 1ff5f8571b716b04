-- The pairs of a field that is an object.
use Rattle.std.proofs.Common.{◌≡◌, Option, Some, None, refl, sym, ap, ◌∙◌}
use Rattle.std.specs.Option.{option_map}
use Rattle.n1ql_value.specs.declared.datum.Datum.{Datum}
use Rattle.n1ql_value.specs.declared.value.Value.{Value}
use Rattle.n1ql_value.specs.Datum.{datum_of, value_of, value_of-datum_of}
use Rattle.n1ql_value.specs.Kinds.{object_in, or_missing}

back : (found : Option Value) → option_map value_of (option_map datum_of found) ≡ found
back None = refl
back (Some v) = ap Some (value_of-datum_of v)

pub field_found : (found : Option Value) (under : Option Datum) → option_map datum_of found ≡ under
    → object_in (or_missing found) ≡ object_in (or_missing (option_map value_of under))
field_found found under e = ap (λ o. object_in (or_missing o)) (sym (back found)) ∙ ap (λ o. object_in (or_missing (option_map value_of o))) e
