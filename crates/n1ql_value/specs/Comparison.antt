-- Comparisons, IN and the tests of IS.
use Rattle.std.specs.Prelude.{Bool, true, false, List, if◌then◌else◌}
use Rattle.std.specs.List.{list_any}
use Rattle.std.specs.Option.{option_map}
use Rattle.std.specs.Ordering.{is_eq, is_ne, is_lt, is_le, is_gt, is_ge}
use Rattle.std.specs.declared.cmp.Ordering.{Ordering}
use Rattle.n1ql_value.specs.declared.datum.Datum.{Datum}
use Rattle.n1ql_value.specs.declared.op.Op.{Op}
use Rattle.n1ql_value.specs.declared.op.Op.TheVariants.{Eq, Ne, Lt, Le, Gt, Ge}
use Rattle.n1ql_value.specs.declared.value.Value.{Value}
use Rattle.n1ql_value.specs.declared.value.Value.TheVariants.{Missing, Null}
use Rattle.n1ql_value.specs.declared.value.Value.TheVariants as value
use Rattle.n1ql_value.specs.Datum.{datum_of}
use Rattle.n1ql_value.specs.Collation.{value_cmp}
use Rattle.n1ql_value.specs.Kinds.{is_missing, is_null, is_valued, array_in, or_null}
use Rattle.n1ql_value.specs.Tables.{either}
use Rattle.n1ql_value.specs.Logic.{and_of}

-- one of the six operators that compare
abbrev pub is_comparing : Op → Bool
is_comparing Eq = true
is_comparing Ne = true
is_comparing Lt = true
is_comparing Le = true
is_comparing Gt = true
is_comparing Ge = true
is_comparing _ = false

-- whether an operator is true of values that stand in this order
abbrev pub allows : Op → Ordering → Bool
allows Eq o = is_eq o
allows Ne o = is_ne o
allows Lt o = is_lt o
allows Le o = is_le o
allows Gt o = is_gt o
allows Ge o = is_ge o
allows _ o = false

-- MISSING if an operand is MISSING, else NULL if one is NULL, else by the order, for values of two types too
abbrev pub comparison_of : Op → Value → Value → Value
comparison_of op a b =
    (if either is_missing a b then Missing
    else (if either is_null a b then Null
    else value.Bool (allows op (value_cmp (datum_of a) (datum_of b)))))

-- v BETWEEN a AND b
abbrev pub between_of : Value → Value → Value → Value
between_of v a b = and_of (comparison_of Ge v a) (comparison_of Le v b)

-- some element equals the value by the order
abbrev pub is_among : Value → List Datum → Bool
is_among v ds = list_any (λ d. is_eq (value_cmp (datum_of v) d)) ds

-- v IN list: MISSING if an operand is MISSING, NULL if v is NULL or the list isn't an array, else whether v is among its elements
abbrev pub in_of : Value → Value → Value
in_of v list =
    (if either is_missing v list then Missing
    else (if is_null v then Null
    else or_null (option_map (λ ds. value.Bool (is_among v ds)) (array_in list))))

-- v IS MISSING, v IS VALUED, v IS NULL
abbrev pub missing_test : Value → Value
missing_test v = value.Bool (is_missing v)

abbrev pub valued_test : Value → Value
valued_test v = value.Bool (is_valued v)

abbrev pub null_test : Value → Value
null_test v = (if is_missing v then Missing else value.Bool (is_null v))
