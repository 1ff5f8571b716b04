-- What contracts see of a value.
use Rattle.std.specs.Prelude.{◌≡◌, ℕ, List, [], ◌∷◌, map, refl}
use Rattle.std.proofs.Common.{sym, ap, ◌∙◌}
use Rattle.n1ql_value.specs.declared.datum.Datum.{Datum, out-Datum, roll-Datum, roll-out-Datum}
use Rattle.n1ql_value.specs.declared.datum.Datum.TheOpen.{Datum-F}
use Rattle.n1ql_value.specs.declared.datum.Datum.TheVariants as datum
use Rattle.n1ql_value.specs.declared.text.Text.{Text as Bytes}
use Rattle.n1ql_value.specs.declared.value.Value.{Value}
use Rattle.n1ql_value.specs.declared.value.Value.TheVariants.{Missing, Null, Bool, Int, Text, Array, Object}

-- the value, whole
abbrev pub datum_of : Value → Datum
datum_of Missing = datum.Missing
datum_of Null = datum.Null
datum_of (Bool b) = datum.Bool b
datum_of (Int z) = datum.Int z
datum_of (Text t) = datum.Text t
datum_of (Array ds) = datum.Array ds
datum_of (Object ps) = datum.Object ps

-- a pair of an object, whole
abbrev pub pair_of : Bytes × Value → List ℕ × Datum
pair_of e = (e.0, datum_of e.1)

-- one level of the value, with all below it whole
abbrev pub layer_of : Value → Datum-F Datum
layer_of Missing = Datum-F.Missing
layer_of Null = Datum-F.Null
layer_of (Bool b) = Datum-F.Bool b
layer_of (Int z) = Datum-F.Int z
layer_of (Text t) = Datum-F.Text t
layer_of (Array ds) = Datum-F.Array ds
layer_of (Object ps) = Datum-F.Object ps

-- the top of a value is its layer
pub out_datum_of : (v : Value) → out-Datum (datum_of v) ≡ layer_of v
out_datum_of Missing = datum.outs-Missing
out_datum_of Null = datum.outs-Null
out_datum_of (Bool b) = datum.outs-Bool b
out_datum_of (Int z) = datum.outs-Int z
out_datum_of (Text t) = datum.outs-Text t
out_datum_of (Array ds) = datum.outs-Array ds
out_datum_of (Object ps) = datum.outs-Object ps

-- the value with this layer, and the value that data stands for
abbrev pub value_with : Datum-F Datum → Value
value_with Datum-F.Missing = Missing
value_with Datum-F.Null = Null
value_with (Datum-F.Bool b) = Bool b
value_with (Datum-F.Int z) = Int z
value_with (Datum-F.Text t) = Text t
value_with (Datum-F.Array ds) = Array ds
value_with (Datum-F.Object ps) = Object ps

abbrev pub value_of : Datum → Value
value_of d = value_with (out-Datum d)

with_own_layer : (v : Value) → value_with (layer_of v) ≡ v
with_own_layer Missing = refl
with_own_layer Null = refl
with_own_layer (Bool b) = refl
with_own_layer (Int z) = refl
with_own_layer (Text t) = refl
with_own_layer (Array ds) = refl
with_own_layer (Object ps) = refl

pub value_of-datum_of : (v : Value) → value_of (datum_of v) ≡ v
value_of-datum_of v = ap value_with (out_datum_of v) ∙ with_own_layer v

pub values_of-data_of : (vs : List Value) → map value_of (map datum_of vs) ≡ vs
values_of-data_of [] = refl
values_of-data_of (v ∷ vs) = cc (value_of-datum_of v, values_of-data_of vs)

with_own_top : (l : Datum-F Datum) → datum_of (value_with l) ≡ roll-Datum l
with_own_top Datum-F.Missing = sym datum.rolls-Missing
with_own_top Datum-F.Null = sym datum.rolls-Null
with_own_top (Datum-F.Bool b) = sym (datum.rolls-Bool b)
with_own_top (Datum-F.Int z) = sym (datum.rolls-Int z)
with_own_top (Datum-F.Text t) = sym (datum.rolls-Text t)
with_own_top (Datum-F.Array ds) = sym (datum.rolls-Array ds)
with_own_top (Datum-F.Object ps) = sym (datum.rolls-Object ps)

pub datum_of-value_of : (d : Datum) → datum_of (value_of d) ≡ d
datum_of-value_of d = with_own_top (out-Datum d) ∙ roll-out-Datum d
