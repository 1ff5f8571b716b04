-- The order FALSE, MISSING, NULL, TRUE, in which AND is the least and OR the greatest of two.
use Rattle.std.specs.Prelude.{ℕ, true, false}
use Rattle.n1ql_value.specs.declared.value.Value.{Value}
use Rattle.n1ql_value.specs.declared.value.Value.TheVariants.{Missing}
use Rattle.n1ql_value.specs.declared.value.Value.TheVariants as value

-- the place of a value in it; what is none of the four counts as NULL
abbrev pub truth_rank : Value → ℕ
truth_rank (value.Bool false) = 0
truth_rank Missing = 1
truth_rank (value.Bool true) = 3
truth_rank _ = 2
