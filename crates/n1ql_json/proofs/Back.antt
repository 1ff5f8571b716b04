-- The JSON of a value stands for the value.
use Rattle.std.proofs.Common.{◌≡◌, ◌≤◌, ℕ, arith, ℤ, suc, max, pos, negsuc, List, [], ◌∷◌, map, Bool, true, false, Some, None, cond, option_map, refl, sym, ap, ap₂, ◌∙◌}
use Rattle.std.proofs.lemmas.Bool.{and_parts, or_parts, true≢false}
use Rattle.serde_json.specs.Data.{Data, depth as json_depth, items_depth, members_depth}
use Rattle.serde_json.specs.Find.{of_integer, as_i64}
use Rattle.serde_json.specs.View.{items_of}
use Rattle.n1ql_value.specs.declared.datum.Datum.{Datum, roll-Datum, fold-roll-Datum}
use Rattle.n1ql_value.specs.declared.datum.Datum.TheVariants as datum
use Rattle.n1ql_value.specs.declared.datum.Datum.TheVariants.{rolls-Null, rolls-Bool, rolls-Int, rolls-Text, rolls-Array, rolls-Object}
use Rattle.n1ql_value.specs.declared.datum.Datum.TheOpen.{Datum-F}
use Rattle.n1ql_value.specs.declared.datum.Datum.TheFolds.{map-Datum}
use Rattle.n1ql_value.specs.Depth.{largest, depth, depth_step}
use Rattle.n1ql_json.specs.Json.{json_of, json_layer, json_pair, members_with, text_of}
use Rattle.n1ql_json.specs.Missing.{some_true, missing_in_layer, has_missing}
use Rattle.n1ql_json.specs.Reads.{value_read, items_read, members_read, number_checked, read_of}
use Rattle.n1ql_json.specs.ReadBack.{IsReadBack}
use Rattle.std.specs.Str.{IsUtf8}
use Rattle.serde_json.specs.Read as serde_json
use Rattle.n1ql_json.proofs.Outcomes.{reads_as}
use Rattle.n1ql_json.specs.Valid.{all_true, is_int64, is_pair, is_value_layer, is_value}
use Rattle.n1ql_json.proofs.Floats.{json_of-roll, by_layers}
use Rattle.n1ql_json.proofs.Held.{pair_test}

-- ---- as deep as the value

abbrev IsAsDeep : Datum → Type 0
IsAsDeep d = json_depth (json_of d) ≡ depth d

abbrev Deep : Type 0
Deep = (d : Datum) × IsAsDeep d

items_deep : (es : List Deep) → items_depth (items_of (map json_of (map (λ (e : Deep). e.0) es))) ≡ largest (map depth (map (λ (e : Deep). e.0) es))
items_deep [] = refl
items_deep (e ∷ es) = ap₂ max (e.1) (items_deep es)

members_deep : (es : List (List ℕ × Deep)) → members_depth (members_with (map json_pair (map (λ (p : List ℕ × Deep). (p.0, p.1.0)) es))) ≡ largest (map (λ (p : List ℕ × ℕ). p.1) (map (λ (p : List ℕ × Datum). (p.0, depth p.1)) (map (λ (p : List ℕ × Deep). (p.0, p.1.0)) es)))
members_deep [] = refl
members_deep (e ∷ es) = ap₂ max (e.1.1) (members_deep es)

layer_deep : (y : Datum-F Deep) → json_depth (json_layer (map-Datum Datum Data json_of (map-Datum Deep Datum (λ e. e.0) y))) ≡ depth_step (map-Datum Datum ℕ depth (map-Datum Deep Datum (λ e. e.0) y))
layer_deep Datum-F.Missing = refl
layer_deep Datum-F.Null = refl
layer_deep (Datum-F.Bool b) = refl
layer_deep (Datum-F.Int z) = refl
layer_deep (Datum-F.Text t) = refl
layer_deep (Datum-F.Array es) = ap suc (items_deep es)
layer_deep (Datum-F.Object es) = ap suc (members_deep es)

pub depth-json_of : (d : Datum) → json_depth (json_of d) ≡ depth d
depth-json_of d = by_layers IsAsDeep (λ y. let x = map-Datum Deep Datum (λ e. e.0) y in ap json_depth (json_of-roll x) ∙ (layer_deep y ∙ sym (fold-roll-Datum ℕ depth_step x))) d

-- ---- the same value

abbrev IsBack : Datum → Type 0
IsBack d = is_value d ≡ true → has_missing d ≡ false → value_read (json_of d) ≡ Some d

abbrev Back : Type 0
Back = (d : Datum) × IsBack d

abbrev whole : Back → Datum
whole e = e.0

abbrev whole_pair : List ℕ × Back → List ℕ × Datum
whole_pair p = (p.0, p.1.0)

abbrev missing_pair : List ℕ × Datum → List ℕ × Bool
missing_pair p = (p.0, has_missing p.1)

as_i64-of_integer : (z : ℤ) → is_int64 z ≡ true → as_i64 (of_integer z) ≡ Some z
as_i64-of_integer (pos n) h = ap (λ b. cond b (Some (pos n)) None) h
as_i64-of_integer (negsuc n) h = refl

items_back : (es : List Back) → all_true (map is_value (map whole es)) ≡ true → some_true (map has_missing (map whole es)) ≡ false → items_read (items_of (map json_of (map whole es))) ≡ Some (map whole es)
items_back [] h k = refl
items_back (e ∷ es) h k =
    let held = and_parts (is_value e.0) _ h in
    let here = or_parts (has_missing e.0) _ k in
    rw (e.1 held.0 here.0, items_back es held.1 here.1)

members_back : (es : List (List ℕ × Back)) → all_true (map is_pair (map pair_test (map whole_pair es))) ≡ true → some_true (map (λ (p : List ℕ × Bool). p.1) (map missing_pair (map whole_pair es))) ≡ false
    → members_read (members_with (map json_pair (map whole_pair es))) ≡ Some (map whole_pair es)
members_back [] h k = refl
members_back (e ∷ es) h k =
    let held = and_parts (is_pair (pair_test (whole_pair e))) _ h in
    let named = and_parts _ (is_value e.1.0) held.0 in
    let here = or_parts (has_missing e.1.0) _ k in
    rw (e.1.1 named.1 here.0, members_back es held.1 here.1)

layer_back : (y : Datum-F Back) → is_value_layer (map-Datum Datum Bool is_value (map-Datum Back Datum whole y)) ≡ true → missing_in_layer (map-Datum Datum Bool has_missing (map-Datum Back Datum whole y)) ≡ false
    → value_read (json_layer (map-Datum Datum Data json_of (map-Datum Back Datum whole y))) ≡ Some (roll-Datum (map-Datum Back Datum whole y))
layer_back Datum-F.Missing h k = absurd (true≢false k)
layer_back Datum-F.Null h k = ap Some (sym rolls-Null)
layer_back (Datum-F.Bool b) h k = ap Some (sym (rolls-Bool b))
layer_back (Datum-F.Int z) h k = ap (option_map datum.Int) (as_i64-of_integer z h) ∙ ap Some (sym (rolls-Int z))
layer_back (Datum-F.Text t) h k = ap Some (sym (rolls-Text t))
layer_back (Datum-F.Array es) h k = ap (option_map datum.Array) (items_back es h k) ∙ ap Some (sym (rolls-Array (map whole es)))
layer_back (Datum-F.Object es) h k = ap (option_map datum.Object) (members_back es (and_parts _ _ h).1 k) ∙ ap Some (sym (rolls-Object (map whole_pair es)))

-- the JSON of a value without MISSING stands for the value
pub value_read-json_of : (d : Datum) → is_value d ≡ true → has_missing d ≡ false → value_read (json_of d) ≡ Some d
value_read-json_of = by_layers IsBack (λ y h k.
    let x = map-Datum Back Datum whole y in
    ap value_read (json_of-roll x) ∙ layer_back y (sym (fold-roll-Datum Bool is_value_layer x) ∙ h) (sym (fold-roll-Datum Bool missing_in_layer x) ∙ k))

-- the text of a value is read back as the value
pub read_back : (d : Datum) (text : List ℕ) → text ≡ text_of d → IsUtf8 text → (json_depth (json_of d) ≤ serde_json.max_depth → serde_json.read text ≡ Some (json_of d)) → is_value d ≡ true → IsReadBack d
read_back d text is utf8 reads held none shallow =
    let found : serde_json.read text ≡ Some (json_of d) = reads (omega (arith, depth-json_of d)) in
    ap read_of (sym is) ∙ (reads_as text (json_of d) utf8 found ∙ ap number_checked (value_read-json_of d held none))
