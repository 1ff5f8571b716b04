-- The number of digits, digit by digit, cut off at an end.
use Rattle.std.proofs.Common.{◌≡◌, ℕ, ◌+◌, ◌-◌, ◌*◌, ◌<◌, List, [], length, take, get_or, min, arith}
use Rattle.std.proofs.lemmas.List.Sums.{fold_more}
use Rattle.script_text.specs.SparseVectors.{with_digit, number_of_digits}

pub number_of_digits-none : (e : ℕ) → 0 ≡ min (number_of_digits ([])) e
unfolding number_of_digits
number_of_digits-none e = omega arith

cut_off : (x e d : ℕ) → min (min x e * 10 + d) e ≡ min (x * 10 + d) e
cut_off x e d = omega arith

pub number_of_digits-more : (digits : List ℕ) (i e n d : ℕ) → i < length digits → n ≡ min (number_of_digits (take i digits)) e → d ≡ get_or digits i 0
    → min (n * 10 + (d - 48)) e ≡ min (number_of_digits (take (i + 1) digits)) e
unfolding number_of_digits
number_of_digits-more digits i e n d h is at =
    let step : number_of_digits (take (i + 1) digits) ≡ with_digit (number_of_digits (take i digits)) (get_or digits i 0) = fold_more with_digit 0 digits i 0 h in
    rw (is, at, step) (cut_off (number_of_digits (take i digits)) e (get_or digits i 0 - 48))
