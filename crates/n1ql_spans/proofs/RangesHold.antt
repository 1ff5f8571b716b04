-- What lies in two ranges lies in their meet, what lies in one of several lies in their hull, and nothing lies in an empty one.
use Rattle.std.proofs.Common.{◌≡◌, Bool, true, false, not, ◌&&◌, ◌||◌, List, [], ◌∷◌, map, cond, Option, Some, None, IsTrue, ◌⊎◌, inl, inr, refl, sym, ap, subst, ◌∙◌}
use Rattle.std.specs.List.{filter, flat_map, fold, list_any}
use Rattle.std.specs.Option.{option_map_or}
use Rattle.std.specs.Ordering.{match_ordering, ordering_reverse}
use Rattle.std.specs.declared.cmp.Ordering.{Ordering}
use Rattle.std.specs.declared.cmp.Ordering.TheVariants.{Less, Equal, Greater}
use Rattle.n1ql_value.specs.declared.datum.Datum.{Datum}
use Rattle.n1ql_value.specs.declared.range.Range.{Range}
use Rattle.n1ql_value.specs.declared.value.Value.{Value}
use Rattle.n1ql_value.specs.Collation.{value_cmp}
use Rattle.n1ql_value.specs.Datum.{datum_of}
use Rattle.n1ql_value.specs.Ranges.{includes_low, includes_high, is_above, is_below, range_holds}
use Rattle.n1ql_spans.specs.declared.edge.Edge.{Edge}
use Rattle.n1ql_spans.specs.RangeAlgebra.{low_of, high_of, inclusion, range_of, narrower_low, narrower_high, wider_low, wider_high, with_inclusion, meet, around, is_empty, meets, hull}
use Rattle.n1ql_spans.proofs.LawsBelow.{OrderLaws}
use Rattle.n1ql_spans.proofs.Tests.{and, any_left, any_right, both, or_cases, or_left, or_right}

-- within a bound, by how the bound and the value stand
abbrev within : Ordering → Bool → Bool
within o included = match_ordering o true included false

within_both : (o : Ordering) (i j : Bool) → IsTrue (within o i) → IsTrue (within o j) → IsTrue (within o (i && j))
within_both Less i j h k = refl
within_both Equal i j h k = and i j h k
within_both Greater i j h k = h

within_left : (o : Ordering) (i j : Bool) → IsTrue (within o i) → IsTrue (within o (i || j))
within_left Less i j h = refl
within_left Equal i j h = or_left i j h
within_left Greater i j h = h

within_right : (o : Ordering) (i j : Bool) → IsTrue (within o j) → IsTrue (within o (i || j))
within_right Less i j h = refl
within_right Equal i j h = or_right i j h
within_right Greater i j h = h

strictly : (o : Ordering) → IsTrue (within o false) → o ≡ Less
strictly Less h = refl
strictly Equal h = absurd cc
strictly Greater h = absurd cc

abbrev edge : Option Value → Bool → Edge
edge x i = record { bound = x; included = i }

abbrev above : Edge → Datum → Bool
above e d = is_above e.bound e.included d

abbrev below : Edge → Datum → Bool
below e d = is_below e.bound e.included d

includes : (l h : Bool) → (includes_low (inclusion l h) ≡ l) × (includes_high (inclusion l h) ≡ h)
includes true true = (refl, refl)
includes true false = (refl, refl)
includes false true = (refl, refl)
includes false false = (refl, refl)

holds_of_edges : (low high : Edge) (d : Datum) → IsTrue (above low d) → IsTrue (below high d) → IsTrue (range_holds (range_of low high) d)
holds_of_edges low high d h k =
    let code = includes low.included high.included in
    and (is_above low.bound (includes_low (inclusion low.included high.included)) d) (is_below high.bound (includes_high (inclusion low.included high.included)) d)
    (subst (λ b. IsTrue (is_above low.bound b d)) (sym code.0) h) (subst (λ b. IsTrue (is_below high.bound b d)) (sym code.1) k)

module _ (order : OrderLaws) where
  -- below what is within
  below_within : (a b c : Datum) (i j : Bool) → value_cmp a b ≡ Less → IsTrue (within (value_cmp b c) i) → IsTrue (within (value_cmp a c) j)
  below_within a b c i j less h =
      elim (value_cmp b c) as (λ o. value_cmp b c ≡ o → IsTrue (within o i) → IsTrue (within (value_cmp a c) j)) [
        | Less ↦ λ is k. rw (order.total.trans a b c less is) refl
        | Equal ↦ λ is k. rw (sym (order.exact b c is)) (rw less refl)
        | Greater ↦ λ is k. absurd cc
      ] refl h

  within_below : (a b c : Datum) (i j : Bool) → IsTrue (within (value_cmp a b) i) → value_cmp b c ≡ Less → IsTrue (within (value_cmp a c) j)
  within_below a b c i j h less =
      elim (value_cmp a b) as (λ o. value_cmp a b ≡ o → IsTrue (within o i) → IsTrue (within (value_cmp a c) j)) [
        | Less ↦ λ is k. rw (order.total.trans a b c is less) refl
        | Equal ↦ λ is k. rw (order.exact a b is) (rw less refl)
        | Greater ↦ λ is k. absurd cc
      ] refl h

  turned : (a b : Datum) → value_cmp a b ≡ Greater → value_cmp b a ≡ Less
  turned a b is = order.total.antisymm b a ∙ ap ordering_reverse is

  narrower_above : (x y : Option Value) (i j : Bool) (d : Datum) → IsTrue (is_above x i d) → IsTrue (is_above y j d) → IsTrue (above (narrower_low (edge x i) (edge y j)) d)
  narrower_above None y i j d h k = k
  narrower_above (Some v) None i j d h k = h
  narrower_above (Some v) (Some w) i j d h k =
      let e : Edge = edge (Some v) i in
      let f : Edge = edge (Some w) j in
      elim (value_cmp (datum_of v) (datum_of w)) as (λ o. value_cmp (datum_of v) (datum_of w) ≡ o → IsTrue (above (match_ordering o f (with_inclusion (i && j) e) e) d)) [
        | Less ↦ λ is. k
        | Equal ↦ λ is. within_both (value_cmp (datum_of v) d) i j h (rw (order.exact (datum_of v) (datum_of w) is) k)
        | Greater ↦ λ is. h
      ] refl

  narrower_below : (x y : Option Value) (i j : Bool) (d : Datum) → IsTrue (is_below x i d) → IsTrue (is_below y j d) → IsTrue (below (narrower_high (edge x i) (edge y j)) d)
  narrower_below None y i j d h k = k
  narrower_below (Some v) None i j d h k = h
  narrower_below (Some v) (Some w) i j d h k =
      let e : Edge = edge (Some v) i in
      let f : Edge = edge (Some w) j in
      elim (value_cmp (datum_of v) (datum_of w)) as (λ o. value_cmp (datum_of v) (datum_of w) ≡ o → IsTrue (below (match_ordering o e (with_inclusion (i && j) e) f) d)) [
        | Less ↦ λ is. h
        | Equal ↦ λ is. within_both (value_cmp d (datum_of v)) i j h (rw (order.exact (datum_of v) (datum_of w) is) k)
        | Greater ↦ λ is. k
      ] refl

  wider_above : (x y : Option Value) (i j : Bool) (d : Datum) → (IsTrue (is_above x i d) ⊎ IsTrue (is_above y j d)) → IsTrue (above (wider_low (edge x i) (edge y j)) d)
  wider_above None y i j d h = refl
  wider_above (Some v) None i j d h = refl
  wider_above (Some v) (Some w) i j d h =
      let e : Edge = edge (Some v) i in
      let f : Edge = edge (Some w) j in
      elim (value_cmp (datum_of v) (datum_of w)) as (λ o. value_cmp (datum_of v) (datum_of w) ≡ o → IsTrue (above (match_ordering o e (with_inclusion (i || j) e) f) d)) [
        | Less ↦ λ is. elim h [ inl t ↦ t | inr t ↦ below_within (datum_of v) (datum_of w) d j i is t ]
        | Equal ↦ λ is. elim h [ inl t ↦ within_left (value_cmp (datum_of v) d) i j t | inr t ↦ within_right (value_cmp (datum_of v) d) i j (rw (order.exact (datum_of v) (datum_of w) is) t) ]
        | Greater ↦ λ is. elim h [ inl t ↦ below_within (datum_of w) (datum_of v) d i j (turned (datum_of v) (datum_of w) is) t | inr t ↦ t ]
      ] refl

  wider_below : (x y : Option Value) (i j : Bool) (d : Datum) → (IsTrue (is_below x i d) ⊎ IsTrue (is_below y j d)) → IsTrue (below (wider_high (edge x i) (edge y j)) d)
  wider_below None y i j d h = refl
  wider_below (Some v) None i j d h = refl
  wider_below (Some v) (Some w) i j d h =
      let e : Edge = edge (Some v) i in
      let f : Edge = edge (Some w) j in
      elim (value_cmp (datum_of v) (datum_of w)) as (λ o. value_cmp (datum_of v) (datum_of w) ≡ o → IsTrue (below (match_ordering o f (with_inclusion (i || j) e) e) d)) [
        | Less ↦ λ is. elim h [ inl t ↦ within_below d (datum_of v) (datum_of w) i j t is | inr t ↦ t ]
        | Equal ↦ λ is. elim h [ inl t ↦ within_left (value_cmp d (datum_of v)) i j t | inr t ↦ within_right (value_cmp d (datum_of v)) i j (rw (order.exact (datum_of v) (datum_of w) is) t) ]
        | Greater ↦ λ is. elim h [ inl t ↦ t | inr t ↦ within_below d (datum_of w) (datum_of v) j i t (turned (datum_of v) (datum_of w) is) ]
      ] refl

  in_meet : (r s : Range) (d : Datum) → IsTrue (range_holds r d) → IsTrue (range_holds s d) → IsTrue (range_holds (meet r s) d)
  in_meet r s d h k =
      let of_r = both (is_above r.low (includes_low r.incl) d) (is_below r.high (includes_high r.incl) d) h in
      let of_s = both (is_above s.low (includes_low s.incl) d) (is_below s.high (includes_high s.incl) d) k in
      holds_of_edges (narrower_low (low_of r) (low_of s)) (narrower_high (high_of r) (high_of s)) d
      (narrower_above r.low s.low (includes_low r.incl) (includes_low s.incl) d of_r.0 of_s.0)
      (narrower_below r.high s.high (includes_high r.incl) (includes_high s.incl) d of_r.1 of_s.1)

  in_around : (r s : Range) (d : Datum) → (IsTrue (range_holds r d) ⊎ IsTrue (range_holds s d)) → IsTrue (range_holds (around r s) d)
  in_around r s d h =
      holds_of_edges (wider_low (low_of r) (low_of s)) (wider_high (high_of r) (high_of s)) d
      (wider_above r.low s.low (includes_low r.incl) (includes_low s.incl) d
      (elim h [ inl t ↦ inl (both (is_above r.low (includes_low r.incl) d) (is_below r.high (includes_high r.incl) d) t).0 | inr t ↦ inr (both (is_above s.low (includes_low s.incl) d) (is_below s.high (includes_high s.incl) d) t).0 ]))
      (wider_below r.high s.high (includes_high r.incl) (includes_high s.incl) d
      (elim h [ inl t ↦ inl (both (is_above r.low (includes_low r.incl) d) (is_below r.high (includes_high r.incl) d) t).1 | inr t ↦ inr (both (is_above s.low (includes_low s.incl) d) (is_below s.high (includes_high s.incl) d) t).1 ]))

  -- a range that holds a value isn't empty
  apart : (a b : Datum) (j : Bool) → value_cmp a b ≡ Less → IsTrue (within (value_cmp b a) j) → ⊥
  apart a b j less h =
      let reversed : value_cmp b a ≡ Greater = order.total.antisymm b a ∙ ap ordering_reverse less in
      let k : IsTrue (within Greater j) = subst (λ o. IsTrue (within o j)) reversed h in absurd cc

  point_in : (a d : Datum) (i j : Bool) → IsTrue (within (value_cmp a d) i) → IsTrue (within (value_cmp d a) j) → not (i && j) ≡ false
  point_in a d i j h k =
      elim (value_cmp a d) as (λ o. value_cmp a d ≡ o → IsTrue (within o i) → not (i && j) ≡ false) [
        | Less ↦ λ is t. absurd (apart a d j is k)
        | Equal ↦ λ is t.
            let back : value_cmp d a ≡ Equal = order.total.antisymm d a ∙ ap ordering_reverse is in
            let u : IsTrue j = subst (λ o. IsTrue (within o j)) back k in rw t (rw u refl)
        | Greater ↦ λ is t. absurd cc
      ] refl h

  not_empty : (x y : Option Value) (i j : Bool) (d : Datum) → IsTrue (is_above x i d) → IsTrue (is_below y j d)
      → option_map_or (λ v. option_map_or (λ w. match_ordering (value_cmp (datum_of v) (datum_of w)) false (not (i && j)) true) y false) x false ≡ false
  not_empty None y i j d h k = refl
  not_empty (Some v) None i j d h k = refl
  not_empty (Some v) (Some w) i j d h k =
      elim (value_cmp (datum_of v) (datum_of w)) as (λ o. value_cmp (datum_of v) (datum_of w) ≡ o → match_ordering o false (not (i && j)) true ≡ false) [
        | Less ↦ λ is. refl
        | Equal ↦ λ is. point_in (datum_of v) d i j h (subst (λ e. IsTrue (within (value_cmp d e) j)) (sym (order.exact (datum_of v) (datum_of w) is)) k)
        | Greater ↦ λ is. absurd (apart (datum_of w) d j (strictly (value_cmp (datum_of w) d) (below_within (datum_of w) (datum_of v) d i false (turned (datum_of v) (datum_of w) is) h)) k)
      ] refl

  holds_not_empty : (r : Range) (d : Datum) → IsTrue (range_holds r d) → is_empty r ≡ false
  holds_not_empty r d h =
      let of_r = both (is_above r.low (includes_low r.incl) d) (is_below r.high (includes_high r.incl) d) h in
      not_empty r.low r.high (includes_low r.incl) (includes_high r.incl) d of_r.0 of_r.1

-- ---- several ranges

abbrev pub some_hold : List Range → Datum → Bool
some_hold rs d = list_any (λ r. range_holds r d) rs

-- each of several lists has a range that holds the value
abbrev pub AllHold : List (List Range) → Datum → Type 0
AllHold [] d = Unit {0}
AllHold (rs ∷ rss) d = IsTrue (some_hold rs d) × AllHold rss d

module _ (order : OrderLaws) where
  some_meet : (r : Range) (ss : List Range) (d : Datum) → IsTrue (range_holds r d) → IsTrue (some_hold ss d) → IsTrue (some_hold (map (meet r) ss) d)
  some_meet r [] d h k = k
  some_meet r (s ∷ ss) d h k =
      or_cases (range_holds s d) (some_hold ss d) k
      (λ t. or_left (range_holds (meet r s) d) (some_hold (map (meet r) ss) d) (in_meet order r s d h t))
      (λ t. or_right (range_holds (meet r s) d) (some_hold (map (meet r) ss) d) (some_meet r ss d h t))

  some_meets : (rs ss : List Range) (d : Datum) → IsTrue (some_hold rs d) → IsTrue (some_hold ss d) → IsTrue (some_hold (flat_map (λ r. map (meet r) ss) rs) d)
  some_meets [] ss d h k = h
  some_meets (r ∷ rs) ss d h k =
      or_cases (range_holds r d) (some_hold rs d) h
      (λ t. any_left (λ q. range_holds q d) (map (meet r) ss) (flat_map (λ r. map (meet r) ss) rs) (some_meet r ss d t k))
      (λ t. any_right (λ q. range_holds q d) (map (meet r) ss) (flat_map (λ r. map (meet r) ss) rs) (some_meets rs ss d t k))

  without_empty : (rs : List Range) (d : Datum) → IsTrue (some_hold rs d) → IsTrue (some_hold (filter (λ r. not (is_empty r)) rs) d)
  without_empty [] d h = h
  without_empty (r ∷ rs) d h =
      let rest : List Range = filter (λ r. not (is_empty r)) rs in
      or_cases (range_holds r d) (some_hold rs d) h
      (λ t. rw (holds_not_empty order r d t) (or_left (range_holds r d) (some_hold rest d) t))
      (λ t. elim (not (is_empty r)) as (λ b. IsTrue (some_hold (cond b (r ∷ rest) rest) d)) [ true ↦ or_right (range_holds r d) (some_hold rest d) (without_empty rs d t) | false ↦ without_empty rs d t ])

  in_meets : (rs ss : List Range) (d : Datum) → IsTrue (some_hold rs d) → IsTrue (some_hold ss d) → IsTrue (some_hold (meets rs ss) d)
  in_meets rs ss d h k = without_empty (flat_map (λ r. map (meet r) ss) rs) d (some_meets rs ss d h k)

  pub in_all : (rs : List Range) (rss : List (List Range)) (d : Datum) → IsTrue (some_hold rs d) → AllHold rss d → IsTrue (some_hold (fold meets rs rss) d)
  in_all rs [] d h all = h
  in_all rs (ss ∷ rss) d h all = in_all (meets rs ss) rss d (in_meets rs ss d h all.0) all.1

  in_hull_from : (r : Range) (rs : List Range) (d : Datum) → (IsTrue (range_holds r d) ⊎ IsTrue (some_hold rs d)) → IsTrue (range_holds (fold around r rs) d)
  in_hull_from r [] d (inl t) = t
  in_hull_from r [] d (inr t) = absurd cc
  in_hull_from r (s ∷ rs) d (inl t) = in_hull_from (around r s) rs d (inl (in_around order r s d (inl t)))
  in_hull_from r (s ∷ rs) d (inr t) =
      or_cases (range_holds s d) (some_hold rs d) t
      (λ k. in_hull_from (around r s) rs d (inl (in_around order r s d (inr k))))
      (λ k. in_hull_from (around r s) rs d (inr k))

  pub in_hull : (rs : List Range) (d : Datum) → IsTrue (some_hold rs d) → IsTrue (range_holds (hull rs) d)
  in_hull [] d h = absurd cc
  in_hull (r ∷ rs) d h = or_cases (range_holds r d) (some_hold rs d) h (λ k. in_hull_from r rs d (inl k)) (λ k. in_hull_from r rs d (inr k))
