-- A stream that gives its next numbers.
use Rattle.std.proofs.Common.{◌≡◌, ◌≢◌, ℕ, ◌+◌, ◌<◌, ◌≤◌, List, cond, eqb, length, Option, Some, None, refl, ap, sym, subst, ◌∙◌, inl, inr, arith}
use Rattle.std.proofs.lemmas.Bool.{cases_eq, cond-true, cond-false}
use Rattle.std.proofs.lemmas.Bool.Decides.{eqb_tells}
use Rattle.std.proofs.lemmas.List.{get_or-set_same, get_or-set_other}
use Rattle.std.proofs.Math.ListN.{length-set}
use Rattle.std.proofs.Math.Nat.{min-le_right, le-min}
use Rattle.std.specs.Prelude.{min, slice_set}
use Rattle.std.specs.Option.{option_map, option_map_or}
use Rattle.seq_vector.specs.Vectors.{entry, IsCovered}
use Rattle.vb_store.specs.declared.mutation.Mutation.{Mutation}
use Rattle.dcp_stream.specs.Streams.{Stream, Bounds, IsStream, marker_end, next_bounds, passed, advanced}
use Rattle.dcp_stream.specs.Pieces.{Marked, bounds_of, piece_of, after_any}

-- a number is put into a vector, and another into one above it
pub set_below : (xs high : List ℕ) (vb x : ℕ) → vb < length xs → x ≤ entry high vb → IsCovered xs high → IsCovered (slice_set xs vb x) high
set_below xs high vb x within le covered k lt = elim (cases_eq k vb) [
  | inl same ↦
      let at : entry (slice_set xs vb x) vb ≡ x = get_or-set_same xs vb x 0 within in
      subst (λ (i : ℕ). entry (slice_set xs vb x) i ≤ entry high i) (sym same) (omega (arith, at, le))
  | inr other ↦
      let at : entry (slice_set xs vb x) k ≡ entry xs k = get_or-set_other xs vb k x 0 other in
      let before : entry xs k ≤ entry high k = covered k (omega (arith, length-set xs vb x, lt)) in
      omega (arith, at, before)
]

pub set_both : (xs ys : List ℕ) (vb x y : ℕ) → vb < length xs → vb < length ys → x ≤ y → IsCovered xs ys → IsCovered (slice_set xs vb x) (slice_set ys vb y)
set_both xs ys vb x y within within' le covered k lt = elim (cases_eq k vb) [
  | inl same ↦
      let low : entry (slice_set xs vb x) vb ≡ x = get_or-set_same xs vb x 0 within in
      let top : entry (slice_set ys vb y) vb ≡ y = get_or-set_same ys vb y 0 within' in
      subst (λ (i : ℕ). entry (slice_set xs vb x) i ≤ entry (slice_set ys vb y) i) (sym same) (omega (arith, low, top, le))
  | inr other ↦
      let low : entry (slice_set xs vb x) k ≡ entry xs k = get_or-set_other xs vb k x 0 other in
      let top : entry (slice_set ys vb y) k ≡ entry ys k = get_or-set_other ys vb k y 0 other in
      let before : entry xs k ≤ entry ys k = covered k (omega (arith, length-set xs vb x, lt)) in
      omega (arith, low, top, before)
]

-- a marker that ends no later than what was accepted is followed by one that doesn't either
pub record EndHolds (at high end : ℕ) : Type 0 where
  pub behind : at ≤ end
  pub within : end ≤ high
  pub more : at ≢ high → at < end

pub end_holds : (at e high : ℕ) → at ≤ e → e ≤ high → EndHolds at high (marker_end at e high)
end_holds at e high low up = elim (eqb_tells at e) [
  | inl w ↦
      let is : marker_end at e high ≡ high = cond-true (eqb at e) high e w.0 in
      record { behind = omega (arith, is); within = omega (arith, is); more = λ ne. omega (arith, is, ne) }
  | inr w ↦
      let is : marker_end at e high ≡ e = cond-false (eqb at e) high e w.0 in
      let other : at ≢ e = w.1 in
      record { behind = omega (arith, is); within = omega (arith, is); more = λ ne. omega (arith, is, other) }
]

module _ (high : List ℕ) (most vb : ℕ) (s : Stream) where
  -- the numbers that come next, where some do
  abbrev pub the_next : Bounds
  the_next = record { vb = vb; from = entry s.at vb + 1; to = min (entry s.at vb + most) (marker_end (entry s.at vb) (entry s.ends vb) (entry high vb)); end = marker_end (entry s.at vb) (entry s.ends vb) (entry high vb) }

  module _ (is : IsStream s) (reached : IsCovered s.ends high) (within : vb < length s.at) where
    holds : EndHolds (entry s.at vb) (entry high vb) (the_next).end
    holds = let size = is.size in end_holds (entry s.at vb) (entry s.ends vb) (entry high vb) (is.before_end vb within) (reached vb (omega arith))

    no_further : (the_next).to ≤ (the_next).end
    no_further = min-le_right (entry s.at vb + most) (the_next).end

    first_bounds : entry s.at vb ≢ entry high vb → 0 < most → (vb ≡ vb) × (1 ≤ (the_next).from) × ((the_next).from ≤ (the_next).to) × ((the_next).to ≤ (the_next).end) × ((the_next).end ≤ entry high vb)
    first_bounds ne some =
        let more = (holds).more ne in
        (refl, omega arith, le-min {k = entry s.at vb + 1} {a = entry s.at vb + most} {b = (the_next).end} (omega arith) (omega arith), no_further, (holds).within)

    pub bounds_hold : (b : Bounds) → 0 < most → next_bounds high most vb s ≡ Some b → (b.vb ≡ vb) × (1 ≤ b.from) × (b.from ≤ b.to) × (b.to ≤ b.end) × (b.end ≤ entry high vb)
    bounds_hold b some e = elim (eqb_tells (entry s.at vb) (entry high vb)) [
      | inl w ↦
          let none : None ≡ Some b = sym (ap (λ t. cond t None (Some (the_next))) w.0) ∙ e in
          absurd cc
      | inr w ↦
          let one : Some (the_next) ≡ Some b = sym (ap (λ t. cond t None (Some (the_next))) w.0) ∙ e in
          let is : the_next ≡ b = cc in
          subst (λ (x : Bounds). (x.vb ≡ vb) × (1 ≤ x.from) × (x.from ≤ x.to) × (x.to ≤ x.end) × (x.end ≤ entry high vb)) is (first_bounds w.1 some)
    ]

    -- either the stream stays, or it has given its next numbers
    by_cases : (P : Stream → Type 0) → P s → P (passed (the_next) s) → P (advanced high most vb s)
    by_cases P stays gives = elim (eqb_tells (entry s.at vb) (entry high vb)) [
      | inl w ↦ subst P (sym (ap (λ t. option_map_or (λ b. passed b s) (cond t None (Some (the_next))) s) w.0)) stays
      | inr w ↦ subst P (sym (ap (λ t. option_map_or (λ b. passed b s) (cond t None (Some (the_next))) s) w.0)) gives
    ]

    pub stream_on : IsStream (advanced high most vb s)
    stream_on = by_cases IsStream is
        (record {
          size = length-set s.ends vb (the_next).end ∙ (is.size ∙ sym (length-set s.at vb (the_next).to));
          before_end = let size = is.size in set_both s.at s.ends vb (the_next).to (the_next).end within (omega arith) no_further is.before_end;
        })

    pub reached_on : IsCovered (advanced high most vb s).ends high
    reached_on = by_cases (λ x. IsCovered x.ends high) reached
        (let size = is.size in set_below s.ends high vb (the_next).end (omega arith) (holds).within reached)

  pub advanced-size : length (advanced high most vb s).at ≡ length s.at
  advanced-size = elim (eqb_tells (entry s.at vb) (entry high vb)) [
    | inl w ↦ ap (λ t. length (option_map_or (λ b. passed b s) (cond t None (Some (the_next))) s).at) w.0
    | inr w ↦ ap (λ t. length (option_map_or (λ b. passed b s) (cond t None (Some (the_next))) s).at) w.0 ∙ length-set s.at vb (the_next).to
  ]

pub told : (log : List Mutation) (start : ℕ) (b : Option Bounds) → option_map bounds_of (option_map (piece_of log start) b) ≡ b
told log start None = refl
told log start (Some b) = refl

pub told_after : (log : List Mutation) (start : ℕ) (b : Option Bounds) (m : Marked) → (after_any (option_map (piece_of log start) b) m).stream ≡ option_map_or (λ x. passed x m.stream) b m.stream
told_after log start None m = refl
told_after log start (Some b) m = refl
