-- Going over values for the topmost of them, and for the first that is so.
use Rattle.std.proofs.Common.{◌≡◌, ◌<◌, ◌≤◌, ◌+◌, ℕ, zero, suc, Bool, true, false, cond, List, [], ◌∷◌, length, get_or, drop, map, Bor, Option, Some, None, refl, sym, ap, ◌∙◌, add-one, arith}
use Rattle.std.specs.List.{filter, find, fold}
use Rattle.std.specs.Option.{option_copied, option_map}
use Rattle.std.specs.declared.cmp.Ordering.{Ordering}
use Rattle.n1ql_value.specs.declared.datum.Datum.{Datum}
use Rattle.n1ql_value.specs.declared.value.Value.{Value}
use Rattle.n1ql_value.specs.Datum.{datum_of, value_of, value_of-datum_of, values_of-data_of}
use Rattle.n1ql_value.specs.Kinds.{is_valued, or_null}
use Rattle.n1ql_value.specs.FunctionValues.{higher, topmost_valued, first_that}
use Rattle.n1ql_funcs.specs.Choice.{higher_valued}

-- the topmost of what was found and of the values that are left
abbrev pub onward : (Datum → Datum → Ordering) → Option Datum → List Value → Option Datum
onward R found [] = found
onward R found (v ∷ vs) = onward R (higher_valued R found v) vs

valued_first : (R : Datum → Datum → Ordering) (found : Option Datum) (v : Value) (vs : List Value) (valued : Bool) → is_valued v ≡ valued
    → fold (higher R) found (cond valued (datum_of v ∷ filter (λ d. is_valued (value_of d)) (map datum_of vs)) (filter (λ d. is_valued (value_of d)) (map datum_of vs)))
    ≡ fold (higher R) (higher_valued R found v) (filter (λ d. is_valued (value_of d)) (map datum_of vs))
valued_first R found v vs true e = ap (λ b. fold (higher R) (cond b (higher R found (datum_of v)) found) (filter (λ d. is_valued (value_of d)) (map datum_of vs))) (sym e)
valued_first R found v vs false e = ap (λ b. fold (higher R) (cond b (higher R found (datum_of v)) found) (filter (λ d. is_valued (value_of d)) (map datum_of vs))) (sym e)

pub onward-all : (R : Datum → Datum → Ordering) (found : Option Datum) (vs : List Value) → fold (higher R) found (filter (λ d. is_valued (value_of d)) (map datum_of vs)) ≡ onward R found vs
onward-all R found [] = refl
onward-all R found (v ∷ vs) =
    ap (λ (w : Value). fold (higher R) found (cond (is_valued w) (datum_of v ∷ filter (λ d. is_valued (value_of d)) (map datum_of vs)) (filter (λ d. is_valued (value_of d)) (map datum_of vs)))) (value_of-datum_of v)
    ∙ (valued_first R found v vs (is_valued v) refl ∙ onward-all R (higher_valued R found v) vs)

onward-next : (R : Datum → Datum → Ordering) (found : Option Datum) (vs : List Value) (i : ℕ) (d : Value) → i < length vs → onward R found (drop i vs) ≡ onward R (higher_valued R found (get_or vs i d)) (drop (suc i) vs)
onward-next R found [] i d h = absurd (omega arith)
onward-next R found (v ∷ vs) zero d h = refl
onward-next R found (v ∷ vs) (suc i) d h = onward-next R found vs i d (omega arith)

-- one value further
pub onward-step : (R : Datum → Datum → Ordering) (found : Option Datum) (vs : List Value) (i : ℕ) (d : Value) → i < length vs → onward R found (drop i vs) ≡ onward R (higher_valued R found (get_or vs i d)) (drop (i + 1) vs)
onward-step R found vs i d h = rw (add-one i) (onward-next R found vs i d h)

-- no value is left
pub onward-left : (R : Datum → Datum → Ordering) (found : Option Datum) (vs : List Value) (i : ℕ) → length vs ≤ i → onward R found (drop i vs) ≡ found
onward-left R found [] zero h = refl
onward-left R found [] (suc i) h = refl
onward-left R found (v ∷ vs) zero h = absurd (omega arith)
onward-left R found (v ∷ vs) (suc i) h = onward-left R found vs i (omega arith)

value_told : (found : Option Value) → option_map value_of (option_map datum_of found) ≡ found
value_told None = refl
value_told (Some v) = ap Some (value_of-datum_of v)

pub onward-end : (R : Datum → Datum → Ordering) (found : Option Value) (vs : List Value) → option_map datum_of found ≡ onward R None vs → or_null found ≡ topmost_valued R (map datum_of vs)
onward-end R found vs e = ap or_null (sym (value_told found) ∙ ap (option_map value_of) (e ∙ sym (onward-all R None vs)))

copied : (found : Option (Bor Value)) → option_copied found ≡ option_map (λ (x : Bor Value). x.now) found
copied None = refl
copied (Some x) = refl

pub first_found : (so : Value → Bool) (found : Option (Bor Value)) (vs : List Value) → option_map (λ (x : Bor Value). x.now) found ≡ find so vs → or_null (option_copied found) ≡ first_that so (map datum_of vs)
first_found so found vs e = ap or_null (copied found ∙ (e ∙ ap (find so) (sym (values_of-data_of vs))))
