-- Which values are shown as nothing in brackets.
use Rattle.std.proofs.Common.{◌≡◌, ◌==◌, true, false, [], ◌∷◌, refl, ap, ◌∙◌}
use Rattle.std.specs.Prelude.{if◌then◌else◌}
use Rattle.n1ql_value.specs.declared.datum.Datum.TheVariants as datum
use Rattle.n1ql_value.specs.declared.value.Value.{Value}
use Rattle.n1ql_value.specs.declared.value.Value.TheVariants.{Missing, Null, Int, Text, Array, Object}
use Rattle.n1ql_value.specs.declared.value.Value.TheVariants as value
use Rattle.n1ql_value.specs.Datum.{datum_of, layer_of, out_datum_of}
use Rattle.n1ql_value.specs.Layers.{class_of}
use Rattle.scan_history.specs.RowTexts.{key_shown}

by_layer : (v : Value) → key_shown (datum_of v) ≡ (if class_of (layer_of v) == 0 then datum.Array [] else datum.Array (datum_of v ∷ []))
by_layer v = ap (λ layer. if class_of layer == 0 then datum.Array [] else datum.Array (datum_of v ∷ [])) (out_datum_of v)

pub missing_shown : (v : Value) → v ≡ Missing → key_shown (datum_of v) ≡ datum.Array []
missing_shown v is = ap (λ (w : Value). key_shown (datum_of w)) is ∙ by_layer Missing

pub other_shown : (v : Value) → (v ≡ Missing → ⊥) → key_shown (datum_of v) ≡ datum.Array (datum_of v ∷ [])
other_shown Missing not = absurd (not refl)
other_shown Null not = by_layer Null
other_shown (value.Bool false) not = by_layer (value.Bool false)
other_shown (value.Bool true) not = by_layer (value.Bool true)
other_shown (Int z) not = by_layer (Int z)
other_shown (Text t) not = by_layer (Text t)
other_shown (Array ds) not = by_layer (Array ds)
other_shown (Object ps) not = by_layer (Object ps)
