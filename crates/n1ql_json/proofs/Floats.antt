-- The JSON of a value has no floats.
use Rattle.std.proofs.Common.{◌≡◌, ℕ, ℤ, pos, negsuc, List, [], ◌∷◌, map, false, refl, ap, ◌∙◌, subst}
use Rattle.serde_json.specs.Data.{Data}
use Rattle.serde_json.specs.Find.{of_integer, is_float}
use Rattle.serde_json.specs.View.{items_of}
use Rattle.serde_json.specs.Written.{has_float, items_have_float, members_have_float}
use Rattle.n1ql_value.specs.declared.datum.Datum.{Datum, roll-Datum, fold-roll-Datum}
use Rattle.n1ql_value.specs.declared.datum.Datum.TheOpen.{Datum-F}
use Rattle.n1ql_value.specs.declared.datum.Datum.TheFolds.{map-Datum, ind-Datum}
use Rattle.n1ql_json.specs.Json.{json_of, json_layer, json_pair, members_with}

pub json_of-roll : (x : Datum-F Datum) → json_of (roll-Datum x) ≡ json_layer (map-Datum Datum Data json_of x)
json_of-roll x = fold-roll-Datum Data json_layer x

-- an induction over values: what holds of a value whenever it holds of all below it
module _ (P : Datum → Type 0) (step : (y : Datum-F ((d : Datum) × P d)) → P (roll-Datum (map-Datum ((d : Datum) × P d) Datum (λ e. e.0) y))) where
  pub by_layers : (d : Datum) → P d
  by_layers d = ind-Datum P (λ x y e. subst (λ z. P (roll-Datum z)) e (step y)) d

of_integer-no_float : (z : ℤ) → is_float (of_integer z) ≡ false
of_integer-no_float (pos n) = refl
of_integer-no_float (negsuc n) = refl

abbrev IsFloatFree : Datum → Type 0
IsFloatFree d = has_float (json_of d) ≡ false

abbrev Free : Type 0
Free = (d : Datum) × IsFloatFree d

items_free : (es : List Free) → items_have_float (items_of (map json_of (map (λ (e : Free). e.0) es))) ≡ false
items_free [] = refl
items_free (e ∷ es) = rw (e.1) (items_free es)

members_free : (es : List (List ℕ × Free)) → members_have_float (members_with (map json_pair (map (λ (p : List ℕ × Free). (p.0, p.1.0)) es))) ≡ false
members_free [] = refl
members_free (e ∷ es) = rw (e.1.1) (members_free es)

layer_free : (y : Datum-F Free) → has_float (json_layer (map-Datum Datum Data json_of (map-Datum Free Datum (λ e. e.0) y))) ≡ false
layer_free Datum-F.Missing = refl
layer_free Datum-F.Null = refl
layer_free (Datum-F.Bool b) = refl
layer_free (Datum-F.Int z) = of_integer-no_float z
layer_free (Datum-F.Text t) = refl
layer_free (Datum-F.Array es) = items_free es
layer_free (Datum-F.Object es) = members_free es

pub no_float : (d : Datum) → has_float (json_of d) ≡ false
no_float d = by_layers IsFloatFree (λ y. ap has_float (json_of-roll (map-Datum Free Datum (λ e. e.0) y)) ∙ layer_free y) d
