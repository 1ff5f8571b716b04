-- Going over the keys of rows, from a place on.
use Rattle.std.proofs.Common.{◌≡◌, ◌<◌, ◌+◌, ◌&&◌, Bool, true, add-one, ℕ, zero, suc, max, List, [], ◌∷◌, length, get_or, drop, refl, sym, ap, ◌∙◌, arith}
use Rattle.std.specs.Ordering.{ordering_then}
use Rattle.std.specs.declared.cmp.Ordering.TheVariants.{Equal}
use Rattle.n1ql_value.specs.declared.datum.Datum.{Datum}
use Rattle.n1ql_value.specs.declared.range.Range.{Range}
use Rattle.n1ql_value.specs.Collation.{value_cmp, key_at, keys_cmp}
use Rattle.n1ql_value.specs.Ranges.{range_holds, span_holds}

pub drop-nil : {A : Type 0} (i : ℕ) → drop {A = A} i [] ≡ []
drop-nil zero = refl
drop-nil (suc i) = refl

-- the keys at the place decide, and else those after it
pub keys_step : (js ks : List Datum) (i : ℕ) → i < max (length js) (length ks) → keys_cmp (drop i js) (drop i ks) ≡ ordering_then (value_cmp (key_at js i) (key_at ks i)) (keys_cmp (drop (suc i) js) (drop (suc i) ks))
keys_step [] [] i h = absurd (omega arith)
keys_step [] (k ∷ ks) zero h = refl
keys_step [] (k ∷ ks) (suc i) h = ap (λ d. keys_cmp d (drop i ks)) (sym (drop-nil i)) ∙ (keys_step [] ks i (omega arith) ∙ ap (λ d. ordering_then (value_cmp (key_at [] i) (key_at ks i)) (keys_cmp d (drop (suc i) ks))) (drop-nil (suc i)))
keys_step (j ∷ js) [] zero h = refl
keys_step (j ∷ js) [] (suc i) h = ap (λ d. keys_cmp (drop i js) d) (sym (drop-nil i)) ∙ (keys_step js [] i (omega arith) ∙ ap (λ d. ordering_then (value_cmp (key_at js i) (key_at [] i)) (keys_cmp (drop (suc i) js) d)) (drop-nil (suc i)))
keys_step (j ∷ js) (k ∷ ks) zero h = refl
keys_step (j ∷ js) (k ∷ ks) (suc i) h = keys_step js ks i (omega arith)

pub keys_end : (js ks : List Datum) (i : ℕ) → i ≡ max (length js) (length ks) → keys_cmp (drop i js) (drop i ks) ≡ Equal
keys_end [] [] i e = ap (λ d. keys_cmp d d) (drop-nil i)
keys_end [] (k ∷ ks) zero e = absurd (omega arith)
keys_end [] (k ∷ ks) (suc i) e = ap (λ d. keys_cmp d (drop i ks)) (sym (drop-nil i)) ∙ keys_end [] ks i (omega arith)
keys_end (j ∷ js) [] zero e = absurd (omega arith)
keys_end (j ∷ js) [] (suc i) e = ap (λ d. keys_cmp (drop i js) d) (sym (drop-nil i)) ∙ keys_end js [] i (omega arith)
keys_end (j ∷ js) (k ∷ ks) zero e = absurd (omega arith)
keys_end (j ∷ js) (k ∷ ks) (suc i) e = keys_end js ks i (omega arith)

-- the range at the place, and those after it
pub span_step : (rs : List Range) (ks : List Datum) (i : ℕ) (d : Range) → i < length rs → span_holds (drop i rs) (drop i ks) ≡ (range_holds (get_or rs i d) (key_at ks i) && span_holds (drop (suc i) rs) (drop (suc i) ks))
span_step [] ks i d h = absurd (omega arith)
span_step (r ∷ rs) [] zero d h = refl
span_step (r ∷ rs) [] (suc i) d h = ap (span_holds (drop i rs)) (sym (drop-nil i)) ∙ (span_step rs [] i d (omega arith) ∙ ap (λ e. range_holds (get_or rs i d) (key_at [] i) && span_holds (drop (suc i) rs) e) (drop-nil (suc i)))
span_step (r ∷ rs) (k ∷ ks) zero d h = refl
span_step (r ∷ rs) (k ∷ ks) (suc i) d h = span_step rs ks i d (omega arith)

-- a range that holds its key leaves the answer to the rest
pub span_more : (rs : List Range) (ks : List Datum) (i : ℕ) (r : Range) (k : Datum) (held all : Bool) → i < length rs → r ≡ get_or rs i r → k ≡ key_at ks i → held ≡ range_holds r k → held ≡ true
    → span_holds (drop i rs) (drop i ks) ≡ all → span_holds (drop (i + 1) rs) (drop (i + 1) ks) ≡ all
span_more rs ks i r k held all h item key holds is_true before =
    let step = span_step rs ks i r h in
    let held_here : range_holds (get_or rs i r) (key_at ks i) ≡ true = ap (λ (x : Range). range_holds x (key_at ks i)) (sym item) ∙ (ap (range_holds r) (sym key) ∙ (sym holds ∙ is_true)) in
    rw add-one (sym (step ∙ ap (λ (b : Bool). b && span_holds (drop (suc i) rs) (drop (suc i) ks)) held_here) ∙ before)
