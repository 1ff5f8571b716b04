-- Ranges of values: what lies in two of them, the least one around several, and those with nothing in them.
use Rattle.std.specs.Prelude.{ℕ, Bool, true, false, not, ◌&&◌, ◌||◌, ◌+◌, List, [], ◌∷◌, map, None, if◌then◌else◌}
use Rattle.std.specs.List.{filter, flat_map, fold}
use Rattle.std.specs.Option.{option_map_or}
use Rattle.std.specs.Ordering.{match_ordering}
use Rattle.std.specs.declared.cmp.Ordering.{Ordering}
use Rattle.n1ql_value.specs.declared.range.Range.{Range}
use Rattle.n1ql_value.specs.declared.value.Value.{Value}
use Rattle.n1ql_value.specs.Collation.{value_cmp}
use Rattle.n1ql_value.specs.Datum.{datum_of}
use Rattle.n1ql_value.specs.Ranges.{includes_low, includes_high}
use Rattle.n1ql_spans.specs.declared.edge.Edge.{Edge}

-- the ends of a range, and the range between two ends
abbrev pub low_of : Range → Edge
low_of r = record { bound = r.low; included = includes_low r.incl }

abbrev pub high_of : Range → Edge
high_of r = record { bound = r.high; included = includes_high r.incl }

abbrev pub inclusion : Bool → Bool → ℕ
inclusion low high = (if low then 1 else 0) + (if high then 2 else 0)

abbrev pub range_of : Edge → Edge → Range
range_of low high = record { low = low.bound; high = high.bound; incl = inclusion low.included high.included }

-- how two bounds stand to each other
abbrev pub bound_cmp : Value → Value → Ordering
bound_cmp v w = value_cmp (datum_of v) (datum_of w)

-- the end that lets fewer values in: the one whose side isn't free, or `by` the bounds of both
abbrev pub narrower : (Value → Value → Edge) → Edge → Edge → Edge
narrower by a b = option_map_or (λ v. option_map_or (by v) b.bound a) a.bound b

-- the end that lets more values in: the one whose side is free, or `by` the bounds of both
abbrev pub wider : (Value → Value → Edge) → Edge → Edge → Edge
wider by a b = option_map_or (λ v. option_map_or (by v) b.bound b) a.bound a

-- the same bound, in or out
abbrev pub with_inclusion : Bool → Edge → Edge
with_inclusion included e = record { bound = e.bound; included = included }

-- of two low ends, and of two high ones; a bound of both is in where it is in both
abbrev pub narrower_low : Edge → Edge → Edge
narrower_low a b = narrower (λ v w. match_ordering (bound_cmp v w) b (with_inclusion (a.included && b.included) a) a) a b

abbrev pub narrower_high : Edge → Edge → Edge
narrower_high a b = narrower (λ v w. match_ordering (bound_cmp v w) a (with_inclusion (a.included && b.included) a) b) a b

-- here a bound of both is in where it is in one of them
abbrev pub wider_low : Edge → Edge → Edge
wider_low a b = wider (λ v w. match_ordering (bound_cmp v w) a (with_inclusion (a.included || b.included) a) b) a b

abbrev pub wider_high : Edge → Edge → Edge
wider_high a b = wider (λ v w. match_ordering (bound_cmp v w) b (with_inclusion (a.included || b.included) a) a) a b

-- what lies in both ranges
abbrev pub meet : Range → Range → Range
meet r s = range_of (narrower_low (low_of r) (low_of s)) (narrower_high (high_of r) (high_of s))

-- the least range around both
abbrev pub around : Range → Range → Range
around r s = range_of (wider_low (low_of r) (low_of s)) (wider_high (high_of r) (high_of s))

-- by its bounds alone: the low one is above the high one, or they are equal and not both in
abbrev pub is_empty : Range → Bool
is_empty r =
    option_map_or (λ v. option_map_or (λ w.
    match_ordering (bound_cmp v w) false (not (includes_low r.incl && includes_high r.incl)) true) r.high false) r.low false

-- all values, MISSING too
abbrev pub free : Range
free = record { low = None; high = None; incl = 3 }

-- what lies in one of each, but for empty ranges
abbrev pub meets : List Range → List Range → List Range
meets rs ss = filter (λ r. not (is_empty r)) (flat_map (λ r. map (meet r) ss) rs)

-- from the least to the greatest bound
abbrev pub hull : List Range → Range
hull [] = free
hull (r ∷ rs) = fold around r rs
