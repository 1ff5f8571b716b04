-- Where a comparison with a value is TRUE, what is compared lies in a range of the value, and isn't MISSING.
use Rattle.std.proofs.Common.{◌≡◌, Bool, true, false, not, ◌&&◌, ◌||◌, List, [], ◌∷◌, map, Option, Some, None, IsTrue, refl, sym, ap, ap₂, subst, ◌∙◌, if◌then◌else◌}
use Rattle.std.proofs.lemmas.Bool.{true≢false}
use Rattle.std.proofs.lemmas.Cmp.{tied_itself}
use Rattle.std.specs.List.{filter, list_any}
use Rattle.std.specs.Option.{option_map}
use Rattle.std.specs.Ordering.{match_ordering, ordering_reverse, is_eq, is_lt, is_le, is_gt, is_ge}
use Rattle.std.specs.declared.cmp.Ordering.{Ordering}
use Rattle.std.specs.declared.cmp.Ordering.TheVariants.{Less, Equal, Greater}
use Rattle.n1ql_value.specs.declared.datum.Datum.{Datum}
use Rattle.n1ql_value.specs.declared.op.Op.{Op}
use Rattle.n1ql_value.specs.declared.op.Op.TheVariants as op
use Rattle.n1ql_value.specs.declared.range.Range.{Range}
use Rattle.n1ql_value.specs.declared.value.Value.{Value}
use Rattle.n1ql_value.specs.declared.value.Value.TheVariants.{Missing, Null, Int, Text, Array, Object}
use Rattle.n1ql_value.specs.declared.value.Value.TheVariants as value
use Rattle.n1ql_value.specs.Collation.{layer_cmp, value_cmp}
use Rattle.n1ql_value.specs.Comparison.{is_among as is_element, allows, comparison_of, between_of, in_of, null_test, missing_test}
use Rattle.n1ql_value.specs.Datum.{datum_of, layer_of, out_datum_of, value_of as value_at, datum_of-value_of, value_of-datum_of}
use Rattle.n1ql_value.specs.Kinds.{array_in, is_missing, is_null, is_valued, is_true, or_null}
use Rattle.n1ql_value.specs.Logic.{all_of, and_of, not_of, truth_of}
use Rattle.n1ql_value.specs.Operators.{operation_of}
use Rattle.n1ql_value.specs.Ranges.{range_holds}
use Rattle.sorted_lists.specs.SortedLists.{sort_of}
use Rattle.sorted_lists.proofs.Members.{list_any-filter, list_any-implies, list_any-map, list_any-sort_of}
use Rattle.sorted_lists.proofs.Once.{list_any-each_once}
use Rattle.sorted_lists.proofs.Orderings.{equal_of}
use Rattle.n1ql_ast.specs.declared.test.Test.{Test}
use Rattle.n1ql_ast.specs.declared.test.Test.TheVariants as test
use Rattle.n1ql_ast.specs.Evaluation.{test_of}
use Rattle.n1ql_spans.specs.Bounding.{among, between, closed, compared, distinct, point, from, if_valued, mirror, tested, tested_not, up_to}
use Rattle.n1ql_spans.proofs.LawsBelow.{OrderLaws}
use Rattle.n1ql_spans.proofs.RangesHold.{some_hold}
use Rattle.n1ql_spans.proofs.Tests.{and}

-- a value in one of the ranges, that isn't MISSING
abbrev pub Held : List Range → Value → Type 0
Held rs v = IsTrue (some_hold rs (datum_of v)) × IsTrue (not (is_missing v))

abbrev pub HeldIfAny : Option (List Range) → Value → Type 0
HeldIfAny None v = Unit {0}
HeldIfAny (Some rs) v = Held rs v

-- ---- AND and comparisons that are TRUE

null_false : (b : Value) → is_true (all_of Null (truth_of b)) ≡ false
null_false Missing = refl
null_false Null = refl
null_false (value.Bool true) = refl
null_false (value.Bool false) = refl
null_false (Int z) = refl
null_false (Text t) = refl
null_false (Array ds) = refl
null_false (Object ps) = refl

all_true : (a b : Value) → IsTrue (is_true (all_of (truth_of a) (truth_of b))) → IsTrue (is_true a) × IsTrue (is_true b)
all_true (value.Bool true) (value.Bool true) h = (refl, refl)
all_true (value.Bool true) (value.Bool false) h = absurd cc
all_true (value.Bool true) Missing h = absurd cc
all_true (value.Bool true) Null h = absurd cc
all_true (value.Bool true) (Int z) h = absurd cc
all_true (value.Bool true) (Text t) h = absurd cc
all_true (value.Bool true) (Array ds) h = absurd cc
all_true (value.Bool true) (Object ps) h = absurd cc
all_true (value.Bool false) b h = absurd cc
all_true Missing Missing h = absurd cc
all_true Missing Null h = absurd cc
all_true Missing (value.Bool true) h = absurd cc
all_true Missing (value.Bool false) h = absurd cc
all_true Missing (Int z) h = absurd cc
all_true Missing (Text t) h = absurd cc
all_true Missing (Array ds) h = absurd cc
all_true Missing (Object ps) h = absurd cc
all_true Null b h = absurd (true≢false (sym h ∙ null_false b))
all_true (Int y) b h = absurd (true≢false (sym h ∙ null_false b))
all_true (Text s) b h = absurd (true≢false (sym h ∙ null_false b))
all_true (Array es) b h = absurd (true≢false (sym h ∙ null_false b))
all_true (Object qs) b h = absurd (true≢false (sym h ∙ null_false b))

pub both_true : (a b : Value) → IsTrue (is_true (and_of a b)) → IsTrue (is_true a) × IsTrue (is_true b)
both_true a b h = all_true a b h

compare_by : (a b c d t : Bool) → IsTrue (is_true (if a || b then Missing else (if c || d then Null else value.Bool t)))
    → IsTrue (not (a || c)) × (IsTrue (not (b || d)) × (IsTrue t × IsTrue (not a)))
compare_by true b c d t h = absurd cc
compare_by false true c d t h = absurd cc
compare_by false false true d t h = absurd cc
compare_by false false false true t h = absurd cc
compare_by false false false false true h = (refl, (refl, (refl, refl)))
compare_by false false false false false h = absurd cc

compares : (o : Op) (a b : Value) → IsTrue (is_true (comparison_of o a b))
    → IsTrue (is_valued a) × (IsTrue (is_valued b) × (IsTrue (allows o (value_cmp (datum_of a) (datum_of b))) × IsTrue (not (is_missing a))))
compares o a b h = compare_by (is_missing a) (is_missing b) (is_null a) (is_null b) (allows o (value_cmp (datum_of a) (datum_of b))) h

true_by : (a b c d t : Bool) → IsTrue (not (a || c)) → IsTrue (not (b || d)) → IsTrue t → IsTrue (is_true (if a || b then Missing else (if c || d then Null else value.Bool t)))
true_by true b c d t h k l = absurd cc
true_by false b true d t h k l = absurd cc
true_by false true false d t h k l = absurd cc
true_by false false false true t h k l = absurd cc
true_by false false false false true h k l = refl
true_by false false false false false h k l = absurd cc

comparison_true : (o : Op) (a b : Value) → IsTrue (is_valued a) → IsTrue (is_valued b) → IsTrue (allows o (value_cmp (datum_of a) (datum_of b))) → IsTrue (is_true (comparison_of o a b))
comparison_true o a b h k l = true_by (is_missing a) (is_missing b) (is_null a) (is_null b) (allows o (value_cmp (datum_of a) (datum_of b))) h k l

-- ---- how a value and a bound stand to each other

-- one range, by how its bounds and the value stand
one_holds : (b : Bool) → IsTrue b → IsTrue (b || false)
one_holds true h = refl
one_holds false h = absurd cc

ge_turned : (o : Ordering) → IsTrue (is_ge o) → IsTrue (match_ordering (ordering_reverse o) true true false)
ge_turned Less h = absurd cc
ge_turned Equal h = refl
ge_turned Greater h = refl

le_in : (o : Ordering) → IsTrue (is_le o) → IsTrue (match_ordering o true true false)
le_in Less h = refl
le_in Equal h = refl
le_in Greater h = absurd cc

gt_turned : (o : Ordering) → IsTrue (is_gt o) → IsTrue (match_ordering (ordering_reverse o) true false false)
gt_turned Less h = absurd cc
gt_turned Equal h = absurd cc
gt_turned Greater h = refl

lt_in : (o : Ordering) → IsTrue (is_lt o) → IsTrue (match_ordering o true false false)
lt_in Less h = refl
lt_in Equal h = absurd cc
lt_in Greater h = absurd cc

eq_ge : (o : Ordering) → IsTrue (is_eq o) → IsTrue (is_ge o)
eq_ge Less h = absurd cc
eq_ge Equal h = refl
eq_ge Greater h = absurd cc

eq_le : (o : Ordering) → IsTrue (is_eq o) → IsTrue (is_le o)
eq_le Less h = absurd cc
eq_le Equal h = refl
eq_le Greater h = absurd cc

turn_eq : (o : Ordering) → IsTrue (is_eq o) → IsTrue (is_eq (ordering_reverse o))
turn_eq Equal h = refl
turn_eq Less h = absurd cc
turn_eq Greater h = absurd cc

turn_lt : (o : Ordering) → IsTrue (is_lt o) → IsTrue (is_gt (ordering_reverse o))
turn_lt Less h = refl
turn_lt Equal h = absurd cc
turn_lt Greater h = absurd cc

turn_le : (o : Ordering) → IsTrue (is_le o) → IsTrue (is_ge (ordering_reverse o))
turn_le Less h = refl
turn_le Equal h = refl
turn_le Greater h = absurd cc

turn_gt : (o : Ordering) → IsTrue (is_gt o) → IsTrue (is_lt (ordering_reverse o))
turn_gt Greater h = refl
turn_gt Equal h = absurd cc
turn_gt Less h = absurd cc

turn_ge : (o : Ordering) → IsTrue (is_ge o) → IsTrue (is_le (ordering_reverse o))
turn_ge Greater h = refl
turn_ge Equal h = refl
turn_ge Less h = absurd cc

always : (b : Bool) → IsTrue b → IsTrue (b && true)
always true h = refl
always false h = h

if_there : (k : Value) (r : Range) (d : Datum) → IsTrue (is_valued k) → IsTrue (range_holds r d) → IsTrue (some_hold (if_valued k r) d)
if_there k r d h held = rw h (one_holds (range_holds r d) held)

not_missing : (w : Value) → IsTrue (is_valued w) → IsTrue (not (is_missing w))
not_missing Missing h = absurd cc
not_missing w h = refl

pub truth : (b : Bool) → IsTrue (is_true (value.Bool b)) → IsTrue b
truth true h = refl
truth false h = absurd cc

pub no_null : (w : Value) → IsTrue (is_true (not_of (null_test w))) → IsTrue (is_valued w)
no_null Missing h = absurd cc
no_null Null h = absurd cc
no_null (value.Bool b) h = refl
no_null (Int z) h = refl
no_null (Text t) h = refl
no_null (Array ds) h = refl
no_null (Object ps) h = refl

in_by : (m1 m2 n : Bool) (w : Value) → IsTrue (is_true (if m1 || m2 then Missing else (if n then Null else w))) → IsTrue (not m1) × (IsTrue (not n) × IsTrue (is_true w))
in_by true m2 n w h = absurd cc
in_by false true n w h = absurd cc
in_by false false true w h = absurd cc
in_by false false false w h = (refl, (refl, h))

abbrev point_at : Datum → Range
point_at d = point (value_at d)

abbrev isnt_null : Datum → Bool
isnt_null d = not (is_null (value_at d))

module _ (order : OrderLaws) where
  -- the order of two values, by one level of each
  layers : (v w : Value) → value_cmp (datum_of v) (datum_of w) ≡ layer_cmp value_cmp (layer_of v) (layer_of w)
  layers v w = order.by_layer (datum_of v) (datum_of w) ∙ ap₂ (layer_cmp value_cmp) (out_datum_of v) (out_datum_of w)

  back : (a b : Datum) (o : Ordering) → value_cmp a b ≡ o → value_cmp b a ≡ ordering_reverse o
  back a b o is = order.total.antisymm b a ∙ ap ordering_reverse is

  null_below : (v : Value) → IsTrue (is_valued v) → value_cmp (datum_of Null) (datum_of v) ≡ Less
  null_below Missing h = absurd cc
  null_below Null h = absurd cc
  null_below (value.Bool true) h = layers Null (value.Bool true)
  null_below (value.Bool false) h = layers Null (value.Bool false)
  null_below (Int z) h = layers Null (Int z)
  null_below (Text t) h = layers Null (Text t)
  null_below (Array ds) h = layers Null (Array ds)
  null_below (Object ps) h = layers Null (Object ps)

  null_tied : value_cmp (datum_of Null) (datum_of Null) ≡ Equal
  null_tied = layers Null Null

  in_closed : (low high v : Value) → IsTrue (is_ge (value_cmp (datum_of v) (datum_of low))) → IsTrue (is_le (value_cmp (datum_of v) (datum_of high))) → IsTrue (range_holds (closed low high) (datum_of v))
  in_closed low high v h k =
      and (match_ordering (value_cmp (datum_of low) (datum_of v)) true true false) (match_ordering (value_cmp (datum_of v) (datum_of high)) true true false)
      (rw (back (datum_of v) (datum_of low) (value_cmp (datum_of v) (datum_of low)) refl) (ge_turned (value_cmp (datum_of v) (datum_of low)) h))
      (le_in (value_cmp (datum_of v) (datum_of high)) k)

  in_from : (low v : Value) → IsTrue (is_gt (value_cmp (datum_of v) (datum_of low))) → IsTrue (range_holds (from low false) (datum_of v))
  in_from low v h = always (match_ordering (value_cmp (datum_of low) (datum_of v)) true false false) (rw (back (datum_of v) (datum_of low) (value_cmp (datum_of v) (datum_of low)) refl) (gt_turned (value_cmp (datum_of v) (datum_of low)) h))

  in_from_at : (low v : Value) → IsTrue (is_ge (value_cmp (datum_of v) (datum_of low))) → IsTrue (range_holds (from low true) (datum_of v))
  in_from_at low v h = always (match_ordering (value_cmp (datum_of low) (datum_of v)) true true false) (rw (back (datum_of v) (datum_of low) (value_cmp (datum_of v) (datum_of low)) refl) (ge_turned (value_cmp (datum_of v) (datum_of low)) h))

  in_up_to : (high v : Value) → IsTrue (is_valued v) → IsTrue (is_lt (value_cmp (datum_of v) (datum_of high))) → IsTrue (range_holds (up_to high false) (datum_of v))
  in_up_to high v h k = rw (null_below v h) (lt_in (value_cmp (datum_of v) (datum_of high)) k)

  in_up_to_at : (high v : Value) → IsTrue (is_valued v) → IsTrue (is_le (value_cmp (datum_of v) (datum_of high))) → IsTrue (range_holds (up_to high true) (datum_of v))
  in_up_to_at high v h k = rw (null_below v h) (le_in (value_cmp (datum_of v) (datum_of high)) k)

  pub compared_holds : (o : Op) (v k : Value) → IsTrue (is_true (operation_of o v k)) → HeldIfAny (compared o k) v
  compared_holds op.Eq v k h = let c = compares op.Eq v k h in (if_there k (closed k k) (datum_of v) c.1.0 (in_closed k k v (eq_ge (value_cmp (datum_of v) (datum_of k)) c.1.1.0) (eq_le (value_cmp (datum_of v) (datum_of k)) c.1.1.0)), c.1.1.1)
  compared_holds op.Gt v k h = let c = compares op.Gt v k h in (if_there k (from k false) (datum_of v) c.1.0 (in_from k v c.1.1.0), c.1.1.1)
  compared_holds op.Ge v k h = let c = compares op.Ge v k h in (if_there k (from k true) (datum_of v) c.1.0 (in_from_at k v c.1.1.0), c.1.1.1)
  compared_holds op.Lt v k h = let c = compares op.Lt v k h in (if_there k (up_to k false) (datum_of v) c.1.0 (in_up_to k v c.0 c.1.1.0), c.1.1.1)
  compared_holds op.Le v k h = let c = compares op.Le v k h in (if_there k (up_to k true) (datum_of v) c.1.0 (in_up_to_at k v c.0 c.1.1.0), c.1.1.1)
  compared_holds o v k h = tt

  -- with the operands exchanged
  exchanged : (so other : Ordering → Bool) → ((o : Ordering) → IsTrue (so o) → IsTrue (other (ordering_reverse o))) → (a b : Value) → IsTrue (so (value_cmp (datum_of a) (datum_of b))) → IsTrue (other (value_cmp (datum_of b) (datum_of a)))
  exchanged so other turn a b h = rw (back (datum_of a) (datum_of b) (value_cmp (datum_of a) (datum_of b)) refl) (turn (value_cmp (datum_of a) (datum_of b)) h)

  pub mirrored_holds : (o : Op) (v k : Value) → IsTrue (is_true (operation_of o k v)) → HeldIfAny (compared (mirror o) k) v
  mirrored_holds op.Eq v k h = let c = compares op.Eq k v h in compared_holds op.Eq v k (comparison_true op.Eq v k c.1.0 c.0 (exchanged is_eq is_eq turn_eq k v c.1.1.0))
  mirrored_holds op.Lt v k h = let c = compares op.Lt k v h in compared_holds op.Gt v k (comparison_true op.Gt v k c.1.0 c.0 (exchanged is_lt is_gt turn_lt k v c.1.1.0))
  mirrored_holds op.Le v k h = let c = compares op.Le k v h in compared_holds op.Ge v k (comparison_true op.Ge v k c.1.0 c.0 (exchanged is_le is_ge turn_le k v c.1.1.0))
  mirrored_holds op.Gt v k h = let c = compares op.Gt k v h in compared_holds op.Lt v k (comparison_true op.Lt v k c.1.0 c.0 (exchanged is_gt is_lt turn_gt k v c.1.1.0))
  mirrored_holds op.Ge v k h = let c = compares op.Ge k v h in compared_holds op.Le v k (comparison_true op.Le v k c.1.0 c.0 (exchanged is_ge is_le turn_ge k v c.1.1.0))
  mirrored_holds o v k h = tt

  pub between_holds : (low high v : Value) → IsTrue (is_true (between_of v low high)) → Held (between low high) v
  between_holds low high v h =
      let two = both_true (comparison_of op.Ge v low) (comparison_of op.Le v high) h in
      let ge = compares op.Ge v low two.0 in
      let le = compares op.Le v high two.1 in
      (rw (and (is_valued low) (is_valued high) ge.1.0 le.1.0) (one_holds (range_holds (closed low high) (datum_of v)) (in_closed low high v ge.1.1.0 le.1.1.0)), ge.1.1.1)

  null_held : (w : Value) → IsTrue (is_true (null_test w)) → Held (closed Null Null ∷ []) w
  null_held Null h = (rw null_tied refl, refl)
  null_held Missing h = absurd cc
  null_held (value.Bool b) h = absurd cc
  null_held (Int z) h = absurd cc
  null_held (Text t) h = absurd cc
  null_held (Array ds) h = absurd cc
  null_held (Object ps) h = absurd cc

  valued_held : (w : Value) → IsTrue (is_valued w) → Held (from Null false ∷ []) w
  valued_held w h = (one_holds (range_holds (from Null false) (datum_of w)) (rw (null_below w h) refl), not_missing w h)

  present_held : (w : Value) → IsTrue (is_true (not_of (missing_test w))) → Held (from Null true ∷ []) w
  present_held Missing h = absurd cc
  present_held Null h = (rw null_tied refl, refl)
  present_held (value.Bool b) h = (rw (null_below (value.Bool b) refl) refl, refl)
  present_held (Int z) h = (rw (null_below (Int z) refl) refl, refl)
  present_held (Text t) h = (rw (null_below (Text t) refl) refl, refl)
  present_held (Array ds) h = (rw (null_below (Array ds) refl) refl, refl)
  present_held (Object ps) h = (rw (null_below (Object ps) refl) refl, refl)

  tied_to : (v : Value) (d : Datum) → IsTrue (is_eq (value_cmp (datum_of v) d)) → d ≡ datum_of v
  tied_to v d h = sym (order.exact (datum_of v) d (equal_of (value_cmp (datum_of v) d) h))

  point_holds : (v : Value) (d : Datum) → IsTrue (is_eq (value_cmp (datum_of v) d)) → IsTrue (range_holds (point_at d) (datum_of v))
  point_holds v d h =
      let w : Value = value_at d in
      let is : datum_of w ≡ datum_of v = datum_of-value_of d ∙ tied_to v d h in
      let tie : IsTrue (is_eq (value_cmp (datum_of v) (datum_of w))) = rw is (ap is_eq (tied_itself order.total (datum_of v))) in
      in_closed w w v (eq_ge (value_cmp (datum_of v) (datum_of w)) tie) (eq_le (value_cmp (datum_of v) (datum_of w)) tie)

  points_hold : (v : Value) (ds : List Datum) → IsTrue (not (is_null v)) → IsTrue (is_element v ds) → IsTrue (some_hold (map point_at (distinct ds)) (datum_of v))
  points_hold v ds h k =
      let ties : Datum → Bool = λ d. is_eq (value_cmp (datum_of v) d) in
      let valued : List Datum = filter isnt_null ds in
      let is_valued : (d : Datum) → IsTrue (ties d) → IsTrue (isnt_null d && ties d) =
      λ d t. and (isnt_null d) (ties d) (subst (λ z. IsTrue (not (is_null z))) (sym (ap value_at (tied_to v d t) ∙ value_of-datum_of v)) h) t in
      let kept : IsTrue (list_any ties valued) = subst IsTrue (sym (list_any-filter isnt_null ties ds)) (list_any-implies ties (λ d. isnt_null d && ties d) is_valued ds k) in
      let sorted : IsTrue (list_any ties (sort_of value_cmp valued)) = subst IsTrue (sym (list_any-sort_of value_cmp ties valued)) kept in
      let once : IsTrue (list_any ties (distinct ds)) = subst IsTrue (sym (list_any-each_once {R = value_cmp} order.exact ties (sort_of value_cmp valued))) sorted in
      subst IsTrue (sym (list_any-map point_at (λ r. range_holds r (datum_of v)) (distinct ds)))
      (list_any-implies ties (λ d. range_holds (point_at d) (datum_of v)) (point_holds v) (distinct ds) once)

  among_value : (v list : Value) → IsTrue (not (is_null v)) → IsTrue (is_true (or_null (option_map (λ ds. value.Bool (is_element v ds)) (array_in list)))) → IsTrue (some_hold (among list) (datum_of v))
  among_value v (Array ds) h k = points_hold v ds h (truth (is_element v ds) k)
  among_value v Missing h k = absurd cc
  among_value v Null h k = absurd cc
  among_value v (value.Bool b) h k = absurd cc
  among_value v (Int z) h k = absurd cc
  among_value v (Text t) h k = absurd cc
  among_value v (Object ps) h k = absurd cc

  pub among_holds : (v list : Value) → IsTrue (is_true (in_of v list)) → Held (among list) v
  among_holds v list h =
      let t = in_by (is_missing v) (is_missing list) (is_null v) (or_null (option_map (λ ds. value.Bool (is_element v ds)) (array_in list))) h in
      (among_value v list t.1.0 t.1.1, t.0)

  -- IS and IS NOT
  pub test_holds : (t : Test) (w : Value) → IsTrue (is_true (test_of t w)) → HeldIfAny (tested t) w
  test_holds test.Null w h = null_held w h
  test_holds test.Valued w h = valued_held w (truth (is_valued w) h)
  test_holds test.Missing w h = tt

  pub denial_holds : (t : Test) (w : Value) → IsTrue (is_true (not_of (test_of t w))) → HeldIfAny (tested_not t) w
  denial_holds test.Missing w h = present_held w h
  denial_holds test.Null w h = valued_held w (no_null w h)
  denial_holds test.Valued w h = tt
