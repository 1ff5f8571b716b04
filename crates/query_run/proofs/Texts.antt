-- The text of a list, item by item.
use Rattle.std.proofs.Common.{◌≡◌, ℕ, ◌+◌, ◌<◌, ◌≤◌, Bool, true, false, cond, List, [], ◌∷◌, ◌++◌, map, length, nat_le, Option, Some, None, refl, sym, ap, ◌∙◌, arith, append_assoc, length-append}
use Rattle.std.proofs.lemmas.Bool.Decides.{nat_tests}
use Rattle.serde_json.specs.Data.{Data, Items, array, item, no_items}
use Rattle.serde_json.specs.View.{items_of}
use Rattle.serde_json.specs.Written.{comma_if, compact_text, items_text}
use Rattle.n1ql_value.specs.declared.datum.Datum.{Datum, fold-roll-Datum}
use Rattle.n1ql_value.specs.declared.datum.Datum.TheOpen.{Datum-F}
use Rattle.n1ql_value.specs.declared.datum.Datum.TheVariants as datum
use Rattle.n1ql_value.specs.declared.value.Value.{Value}
use Rattle.n1ql_value.specs.Datum.{datum_of}
use Rattle.n1ql_value.specs.Limits.{max_answer_bytes}
use Rattle.n1ql_json.specs.Json.{json_layer, json_of, text_of}
use Rattle.query_run.specs.Texts.{list_text, within}

-- what is still to be written of a list
abbrev pub rest_text : Bool → List Value → List ℕ
rest_text later vs = items_text later (items_of (map json_of (map datum_of vs)))

array_json : (ds : List Datum) → json_of (datum.Array ds) ≡ array (items_of (map json_of ds))
array_json ds = ap json_of (sym (datum.rolls-Array ds)) ∙ fold-roll-Datum Data json_layer (Datum-F.Array ds)

-- a bracket opens it
pub begins : (text : List ℕ) (vs : List Value) → text ≡ 91 ∷ [] → list_text (map datum_of vs) ≡ text ++ rest_text false vs
begins text vs is = ap compact_text (array_json (map datum_of vs)) ∙ ap (λ t. t ++ rest_text false vs) (sym is)

pub item_added : (text : List ℕ) (later : Bool) (v : Value) (vs : List Value)
    → text ++ rest_text later (v ∷ vs) ≡ (text ++ (comma_if later ++ text_of (datum_of v))) ++ rest_text true vs
item_added text later v vs =
    ap (λ more. text ++ more) (sym (append_assoc (comma_if later) (text_of (datum_of v)) (rest_text true vs)))
    ∙ sym (append_assoc text (comma_if later ++ text_of (datum_of v)) (rest_text true vs))

-- a bracket at least is still to be written
positive : (later : Bool) (ds : Items) → 0 < length (items_text later ds)
positive later no_items = omega arith
positive later (item d ds) =
    let more = positive true ds in
    let behind = length-append (compact_text d) (items_text true ds) in
    let all = length-append (comma_if later) (compact_text d ++ items_text true ds) in
    omega arith

not_within : (m n : ℕ) → n < m → nat_le m n ≡ false
not_within m n h = grind (arith, nat_tests)

is_within : (m n : ℕ) → m ≤ n → nat_le m n ≡ true
is_within m n h = grind (arith, nat_tests)

-- where so much is written, the whole is too large
pub passes : (whole text : List ℕ) (later : Bool) (vs : List Value) → whole ≡ text ++ rest_text later vs → max_answer_bytes ≤ length text → within whole ≡ None
passes whole text later vs is large =
    let at = ap length is in
    let parts = length-append text (rest_text later vs) in
    let more = positive later (items_of (map json_of (map datum_of vs))) in
    let beyond : max_answer_bytes < length whole = omega arith in
    ap (λ b. cond b (Some whole) None) (not_within (length whole) max_answer_bytes beyond)

pub fits : (text : List ℕ) → length text < max_answer_bytes → within (text ++ 93 ∷ []) ≡ Some (text ++ 93 ∷ [])
fits text short =
    let parts = length-append text (93 ∷ []) in
    let few : length (text ++ 93 ∷ []) ≤ max_answer_bytes = omega arith in
    ap (λ b. cond b (Some (text ++ 93 ∷ [])) None) (is_within (length (text ++ 93 ∷ [])) max_answer_bytes few)

pub too_long : (text : List ℕ) → max_answer_bytes ≤ length text → within (text ++ 93 ∷ []) ≡ None
too_long text large = passes (text ++ 93 ∷ []) text false [] refl large
