-- AND, OR and NOT by the table of the N1QL reference. An operand that is none of TRUE, FALSE, NULL and MISSING counts as NULL.
use Rattle.std.specs.Prelude.{true, false, not, if◌then◌else◌}
use Rattle.n1ql_value.specs.declared.value.Value.{Value}
use Rattle.n1ql_value.specs.declared.value.Value.TheVariants.{Missing, Null}
use Rattle.n1ql_value.specs.declared.value.Value.TheVariants as value
use Rattle.n1ql_value.specs.Kinds.{is_missing, is_null, is_true, is_false}
use Rattle.n1ql_value.specs.Tables.{either}

-- the value as one of the four
abbrev pub truth_of : Value → Value
truth_of Missing = Missing
truth_of (value.Bool b) = value.Bool b
truth_of _ = Null

-- of truths: FALSE if one is FALSE, else MISSING if one is MISSING, else NULL if one is NULL, else TRUE
abbrev pub all_of : Value → Value → Value
all_of a b =
    (if either is_false a b then value.Bool false
    else (if either is_missing a b then Missing
    else (if either is_null a b then Null
    else value.Bool true)))

-- of truths: TRUE if one is TRUE, else NULL if one is NULL, else MISSING if one is MISSING, else FALSE
abbrev pub some_of : Value → Value → Value
some_of a b =
    (if either is_true a b then value.Bool true
    else (if either is_null a b then Null
    else (if either is_missing a b then Missing
    else value.Bool false)))

-- of a truth: FALSE and TRUE are exchanged, NULL and MISSING are kept
abbrev pub opposite_of : Value → Value
opposite_of (value.Bool b) = value.Bool (not b)
opposite_of v = v

abbrev pub and_of : Value → Value → Value
and_of a b = all_of (truth_of a) (truth_of b)

abbrev pub or_of : Value → Value → Value
or_of a b = some_of (truth_of a) (truth_of b)

abbrev pub not_of : Value → Value
not_of v = opposite_of (truth_of v)
