-- Spans: a list of spans, each a list of ranges, each an object with a low and a high bound.
use Rattle.std.specs.Prelude.{ℕ, ℤ, pos, codes, List, [], map, length, Bool, false, ◌&&◌, ◌||◌, nat_le, int_le, unwrap_or, if◌then◌else◌}
use Rattle.std.specs.Option.{option_map_or, is_some}
use Rattle.std.specs.Ordering.{int_eq}
use Rattle.std.specs.Str.{bytes_eq}
use Rattle.n1ql_value.specs.declared.datum.Datum.{Datum}
use Rattle.n1ql_value.specs.declared.range.Range.{Range}
use Rattle.n1ql_value.specs.declared.value.Value.{Value}
use Rattle.n1ql_value.specs.Datum.{value_of}
use Rattle.n1ql_value.specs.Limits.{max_spans, max_ranges}
use Rattle.n1ql_value.specs.Kinds.{array_in, number_in, object_in}
use Rattle.script_text.specs.Members.{Members, no_members, value_at, number_at, each_member, each_item}

-- a range has a low and a high bound, any values, and the number that tells which bounds are in; each may be absent
abbrev pub is_range_member : List ℕ → Value → Bool
is_range_member name v =
    bytes_eq name (codes "low") || bytes_eq name (codes "high") || (bytes_eq name (codes "incl") && is_some (number_in v))

abbrev pub is_range : Value → Bool
is_range v = option_map_or (each_member is_range_member) (object_in v) false

abbrev pub is_span : Value → Bool
is_span v = option_map_or (each_item is_range) (array_in v) false

abbrev pub are_spans : Value → Bool
are_spans v = option_map_or (each_item is_span) (array_in v) false

-- which bounds are in: both, where nothing is said
abbrev pub included : Members → ℤ
included members = number_at (codes "incl") (pos 3) members

-- 0 for neither bound, 1 for the low one, 2 for the high one, 3 for both
abbrev pub is_range_within : Value → Bool
is_range_within v = option_map_or (λ members. int_le (pos 0) (included members) && int_le (included members) (pos 3)) (object_in v) false

-- not too many ranges
abbrev pub is_span_within : Value → Bool
is_span_within v = option_map_or (λ ranges. nat_le (length ranges) max_ranges && each_item is_range_within ranges) (array_in v) false

-- not too many spans
abbrev pub are_spans_within : Value → Bool
are_spans_within v = option_map_or (λ spans. nat_le (length spans) max_spans && each_item is_span_within spans) (array_in v) false

-- the same as ranges count it
abbrev pub incl_of : ℤ → ℕ
incl_of z = if int_eq z (pos 0) then 0 else if int_eq z (pos 1) then 1 else if int_eq z (pos 2) then 2 else 3

-- an absent bound leaves its side free
abbrev pub range_with : Members → Range
range_with members =
    record { low = value_at (codes "low") members; high = value_at (codes "high") members; incl = incl_of (included members) }

abbrev pub range_of_value : Value → Range
range_of_value v = range_with (unwrap_or (object_in v) no_members)

abbrev pub no_items : List Datum
no_items = []

abbrev pub span_of_value : Value → List Range
span_of_value v = map (λ d. range_of_value (value_of d)) (unwrap_or (array_in v) no_items)

abbrev pub spans_of_value : Value → List (List Range)
spans_of_value v = map (λ d. span_of_value (value_of d)) (unwrap_or (array_in v) no_items)
