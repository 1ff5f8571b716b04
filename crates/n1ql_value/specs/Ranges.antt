-- Ranges of values and spans of rows.
use Rattle.std.specs.Prelude.{ℕ, Bool, true, false, ◌&&◌, ◌||◌, ◌==◌, List, [], ◌∷◌, Option, Some, None}
use Rattle.std.specs.Ordering.{match_ordering}
use Rattle.std.specs.List.{list_any}
use Rattle.n1ql_value.specs.declared.datum.Datum.{Datum}
use Rattle.n1ql_value.specs.declared.datum.Datum.TheVariants.{Missing}
use Rattle.n1ql_value.specs.declared.value.Value.{Value}
use Rattle.n1ql_value.specs.declared.range.Range.{Range}
use Rattle.n1ql_value.specs.Datum.{datum_of}
use Rattle.n1ql_value.specs.Collation.{value_cmp}

-- which bounds are in: 0 neither, 1 the low one, 2 the high one, 3 both
abbrev pub includes_low : ℕ → Bool
includes_low incl = (incl == 1) || (incl == 3)

abbrev pub includes_high : ℕ → Bool
includes_high incl = (incl == 2) || (incl == 3)

-- an absent bound leaves its side free
abbrev pub is_above : Option Value → Bool → Datum → Bool
is_above None included d = true
is_above (Some bound) included d = match_ordering (value_cmp (datum_of bound) d) true included false

abbrev pub is_below : Option Value → Bool → Datum → Bool
is_below None included d = true
is_below (Some bound) included d = match_ordering (value_cmp d (datum_of bound)) true included false

-- the range holds the value
abbrev pub range_holds : Range → Datum → Bool
range_holds r d = is_above r.low (includes_low r.incl) d && is_below r.high (includes_high r.incl) d

-- Range number p is for the key at place p. A place past the keys reads MISSING.
abbrev pub span_holds : List Range → List Datum → Bool
span_holds [] ks = true
span_holds (r ∷ rs) [] = range_holds r Missing && span_holds rs []
span_holds (r ∷ rs) (k ∷ ks) = range_holds r k && span_holds rs ks

-- some span holds the keys
abbrev pub some_span_holds : List (List Range) → List Datum → Bool
some_span_holds spans ks = list_any (λ span. span_holds span ks) spans
