-- Each value that a program holds is one: what the walk over it shows.
use Rattle.std.proofs.Common.{◌≡◌, ℕ, zero, suc, ◌+◌, ◌<◌, ◌≤◌, ℤ, pos, negsuc, List, [], ◌∷◌, length, get_or, take, map, Bool, true, ◌&&◌, refl, sym, ap, ◌∙◌, arith, add-one}
use Rattle.std.specs.Int.{w64}
use Rattle.std.specs.Prelude.{FitsSigned}
use Rattle.std.specs.Str.{IsUtf8, is_utf8}
use Rattle.std.proofs.lemmas.Bool.{and_from, and_parts}
use Rattle.std.proofs.lemmas.Bool.Decides.{nat_tests}
use Rattle.std.proofs.lemmas.Str.{is_utf8-from_IsUtf8}
use Rattle.std.specs.Ordering.{is_lt}
use Rattle.n1ql_value.specs.declared.datum.Datum.{Datum, fold-roll-Datum}
use Rattle.n1ql_value.specs.declared.datum.Datum.TheVariants as datum
use Rattle.n1ql_value.specs.declared.datum.Datum.TheVariants.{rolls-Object}
use Rattle.n1ql_value.specs.declared.datum.Datum.TheOpen.{Datum-F}
use Rattle.n1ql_value.specs.declared.datum.Datum.TheFolds.{map-Datum, fold_out-Datum}
use Rattle.n1ql_value.specs.declared.text.Text.{Text as Bytes}
use Rattle.n1ql_value.specs.declared.value.Value.{Value}
use Rattle.n1ql_value.specs.declared.value.Value.TheVariants.{Array}
use Rattle.n1ql_value.specs.Datum.{datum_of, pair_of, layer_of, out_datum_of}
use Rattle.n1ql_value.specs.Names.{IsBelowFirst, NamesGrow}
use Rattle.n1ql_json.specs.Valid.{all_true, is_int64, is_below_first, names_grow, is_pair, is_value_layer, is_value}

abbrev pub Entry : Type 0
Entry = Bytes × Value

-- a pair with the test of its value
abbrev pub pair_test : List ℕ × Datum → List ℕ × Bool
pair_test p = (p.0, is_value p.1)

-- a value is one by its top
pub is_value-layer : (v w : Value) → v ≡ w → is_value (datum_of v) ≡ is_value_layer (map-Datum Datum Bool is_value (layer_of w))
is_value-layer v w is = fold_out-Datum Bool is_value_layer (datum_of v) ∙ (ap (λ d. is_value_layer (map-Datum Datum Bool is_value d)) (out_datum_of v) ∙ ap (λ x. is_value_layer (map-Datum Datum Bool is_value (layer_of x))) is)

pub is_int64-fits : (z : ℤ) → FitsSigned w64 z → is_int64 z ≡ true
is_int64-fits (pos n) h = grind (arith, nat_tests)
is_int64-fits (negsuc n) h = grind (arith, nat_tests)

below_first-test : {A : Type 0} (name : List ℕ) (ps : List (List ℕ × A)) → IsBelowFirst name ps → is_below_first name ps ≡ true
below_first-test name [] h = refl
below_first-test name (p ∷ ps) h = ap is_lt h

names_grow-test : (ps : List (List ℕ × Datum)) → NamesGrow ps → names_grow (map pair_test ps) ≡ true
names_grow-test [] h = refl
names_grow-test (p ∷ []) h = refl
names_grow-test (p ∷ q ∷ ps) h = and_from _ _ (ap is_lt h.0) (names_grow-test (q ∷ ps) h.1)

all_next : {A : Type 0} (test : A → Bool) (xs : List A) (i : ℕ) (x : A) → i < length xs → x ≡ get_or xs i x → test x ≡ true → all_true (map test (take i xs)) ≡ true → all_true (map test (take (suc i) xs)) ≡ true
all_next test [] i x h is here before = absurd (omega arith)
all_next test (y ∷ xs) zero x h is here before = and_from (test y) true (ap test (sym is) ∙ here) refl
all_next test (y ∷ xs) (suc i) x h is here before =
    let both = and_parts (test y) (all_true (map test (take i xs))) before in
    and_from _ _ both.0 (all_next test xs i x (omega arith) is here both.1)

-- the first of a list pass a test, and the next does
pub all_more : {A : Type 0} (test : A → Bool) (xs : List A) (i : ℕ) (x : A) → i < length xs → x ≡ get_or xs i x → test x ≡ true → all_true (map test (take i xs)) ≡ true → all_true (map test (take (i + 1) xs)) ≡ true
all_more test xs i x h is here before = rw add-one (all_next test xs i x h is here before)

-- all of a list pass a test
pub all_taken : {A : Type 0} (test : A → Bool) (xs : List A) (i : ℕ) → length xs ≤ i → all_true (map test (take i xs)) ≡ true → all_true (map test xs) ≡ true
all_taken test [] i h taken = refl
all_taken test (x ∷ xs) zero h taken = absurd (omega arith)
all_taken test (x ∷ xs) (suc i) h taken =
    let both = and_parts (test x) (all_true (map test (take i xs))) taken in
    and_from _ _ both.0 (all_taken test xs i (omega arith) both.1)

all_true-map : {A B : Type 0} (f : A → B) (test : B → Bool) (xs : List A) → all_true (map test (map f xs)) ≡ all_true (map (λ x. test (f x)) xs)
all_true-map f test [] = refl
all_true-map f test (x ∷ xs) = ap (λ b. test (f x) && b) (all_true-map f test xs)

abbrev pub is_held : Value → Bool
is_held v = is_value (datum_of v)

abbrev pub is_held_pair : Entry → Bool
is_held_pair e = is_utf8 e.0 && is_value (datum_of e.1)

pub array_held : (v : Value) (ds : List Datum) → v ≡ Array ds → all_true (map is_value ds) ≡ true → is_value (datum_of v) ≡ true
array_held v ds is h = is_value-layer v (Array ds) is ∙ h

pub items_held : (vs : List Value) → all_true (map is_held vs) ≡ true → all_true (map is_value (map datum_of vs)) ≡ true
items_held vs h = all_true-map datum_of is_value vs ∙ h

pairs_held : (ps : List (List ℕ × Datum)) (es : List Entry) → map pair_of es ≡ ps → NamesGrow ps → all_true (map is_held_pair es) ≡ true → is_value_layer (Datum-F.Object (map pair_test ps)) ≡ true
pairs_held ps es is grow h = and_from _ _ (names_grow-test ps grow) (ap (λ qs. all_true (map is_pair (map pair_test qs))) (sym is) ∙ (all_true-map pair_test is_pair (map pair_of es) ∙ (all_true-map pair_of (λ p. is_pair (pair_test p)) es ∙ h)))

pub object_held : (ps : List (List ℕ × Datum)) (es : List Entry) → map pair_of es ≡ ps → NamesGrow ps → all_true (map is_held_pair es) ≡ true → is_value (datum.Object ps) ≡ true
object_held ps es is grow h = ap is_value (sym (rolls-Object ps)) ∙ (fold-roll-Datum Bool is_value_layer (Datum-F.Object ps) ∙ pairs_held ps es is grow h)

pub pair_held : (e : Entry) (name : List ℕ) → e.0 ≡ name → IsUtf8 name → is_value (datum_of e.1) ≡ true → is_held_pair e ≡ true
pair_held e name same utf8 held = and_from _ _ (ap is_utf8 same ∙ is_utf8-from_IsUtf8 name utf8) held
