-- The elements of an array, as the code has them.
use Rattle.std.proofs.Common.{◌≡◌, List, map, sym, ap, ◌∙◌}
use Rattle.n1ql_value.specs.declared.datum.Datum.{Datum}
use Rattle.n1ql_value.specs.declared.value.Value.{Value}
use Rattle.n1ql_value.specs.declared.value.Value.TheVariants.{Array}
use Rattle.n1ql_value.specs.Datum.{datum_of, value_of, values_of-data_of}
use Rattle.index_def.specs.Keys.{elements_in}

pub elements_found : (over : Value) (items : List Datum) (vs : List Value) → over ≡ Array items → map datum_of vs ≡ items → vs ≡ elements_in over
elements_found over items vs is shown = sym (values_of-data_of vs) ∙ (ap (map value_of) shown ∙ sym (ap elements_in is))
