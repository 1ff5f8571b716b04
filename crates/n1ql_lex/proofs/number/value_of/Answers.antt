use Rattle.std.proofs.Common.{◌≡◌, ℕ, ◌+◌, ◌-◌, ◌*◌, ◌≤◌, List, [], ◌∷◌, drop, get_or, arith}
use Rattle.std.proofs.lemmas.List.{at_drop_more}
use Rattle.n1ql_lex.specs.Numbers.{value_after}
use Rattle.n1ql_lex.proofs.number.value_of.Goals as goal

-- more digits make no smaller number
value_after-grows : (n : ℕ) (digits : List ℕ) → n ≤ value_after n digits
value_after-grows n [] = omega arith
value_after-grows n (d ∷ ds) = omega (arith, value_after-grows (n * 10 + (d - 48)) ds)

-- the digits so far are past the greatest number, so all of them are
pub returns-then-value-more : goal.returns-then-value-more
returns-then-value-more c = λ small.
    let digits = c.args.digits.now in
    let i = c.loop-digit.digit-index in
    let value = c.loop-digit.value in
    let step : value_after value (drop i digits) ≡ value_after (value * 10 + (get_or digits i 0 - 48)) (drop (i + 1) digits) =
    at_drop_more (value_after value) digits i 0 c.loop-digit-test.true in
    omega (arith, value_after-grows (value * 10 + (get_or digits i 0 - 48)) (drop (i + 1) digits))
