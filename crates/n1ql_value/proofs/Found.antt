-- What is found among values, which contracts see as plain trees.
use Rattle.std.proofs.Common.{◌≡◌, Option, Some, None, refl, sym, ap, ◌∙◌}
use Rattle.std.specs.Option.{option_map}
use Rattle.n1ql_value.specs.declared.datum.Datum.{Datum}
use Rattle.n1ql_value.specs.declared.value.Value.{Value}
use Rattle.n1ql_value.specs.Datum.{datum_of, value_of, value_of-datum_of}

pub value_in : (found : Option Value) → option_map value_of (option_map datum_of found) ≡ found
value_in None = refl
value_in (Some v) = ap Some (value_of-datum_of v)

pub value_found : (found : Option Value) (told : Option Datum) → option_map datum_of found ≡ told → found ≡ option_map value_of told
value_found found told e = sym (value_in found) ∙ ap (option_map value_of) e
