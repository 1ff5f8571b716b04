-- Going back, vBucket by vBucket.
use Rattle.std.proofs.Common.{◌≡◌, ◌≢◌, ℕ, ◌+◌, ◌<◌, ◌≤◌, List, ltb, length, set, refl, ap, sym, subst, ◌∙◌, inl, inr, arith}
use Rattle.std.proofs.lemmas.Bool.{cases_lt, cond-true, cond-false, lt-ltb, le-ltb}
use Rattle.std.proofs.lemmas.Grind.{same_number_lists}
use Rattle.std.proofs.lemmas.List.{get_or-set_same, get_or-set_other}
use Rattle.std.proofs.lemmas.List.FromFn.{get_or-map-range_with_len, length-map-range_with_len}
use Rattle.std.proofs.Math.ListN.{length-set}
use Rattle.std.proofs.Math.Nat.{min-eq_left, min-eq_right}
use Rattle.std.specs.Prelude.{min}
use Rattle.seq_vector.specs.Vectors.{entry, meet, IsCovered}
use Rattle.dcp_stream.specs.Streams.{Stream, IsStream, lowered_to, lowered, rewound}
use Rattle.dcp_stream.specs.Pieces.{IsMarked}

pub fallen : (p q x : ℕ) → q < p → lowered_to p q x ≡ q
fallen p q x h = cond-true (ltb q p) q x (lt-ltb q p h)

pub stayed : (p q x : ℕ) → p ≤ q → lowered_to p q x ≡ x
stayed p q x h = cond-false (ltb q p) q x (le-ltb q p h)

-- the vBuckets below `done` are lowered, and the others as before
pub record IsLoweredBelow (at to before now : List ℕ) (done : ℕ) : Type 0 where
  pub size : length now ≡ length before
  pub low : (vb : ℕ) → vb < done → entry now vb ≡ lowered_to (entry at vb) (entry to vb) (entry before vb)
  pub kept : (vb : ℕ) → done ≤ vb → entry now vb ≡ entry before vb

pub lowered_more : (at to before now next : List ℕ) (done : ℕ) → IsLoweredBelow at to before now done → length next ≡ length now
    → entry next done ≡ lowered_to (entry at done) (entry to done) (entry now done) → ((vb : ℕ) → vb ≢ done → entry next vb ≡ entry now vb)
    → IsLoweredBelow at to before next (done + 1)
lowered_more at to before now next done so size here others =
    record {
      size = size ∙ so.size;
      low = λ vb lt. elim (cases_lt vb done) [
        | inl below ↦ others vb (omega arith) ∙ so.low vb below
        | inr above ↦
            let same : done ≡ vb = omega arith in
            subst (λ (k : ℕ). entry next k ≡ lowered_to (entry at k) (entry to k) (entry before k)) same
            (here ∙ ap (lowered_to (entry at done) (entry to done)) (so.kept done (omega arith)))
      ];
      kept = λ vb le. others vb (omega arith) ∙ so.kept vb (omega arith);
    }

pub lowered_set : (at to before now : List ℕ) (done : ℕ) → IsLoweredBelow at to before now done → done < length now → entry to done < entry at done
    → IsLoweredBelow at to before (set now done (entry to done)) (done + 1)
lowered_set at to before now done so within falls =
    lowered_more at to before now (set now done (entry to done)) done so (length-set now done (entry to done))
    (get_or-set_same now done (entry to done) 0 within ∙ sym (fallen (entry at done) (entry to done) (entry now done) falls))
    (λ vb ne. get_or-set_other now done vb (entry to done) 0 ne)

pub lowered_kept : (at to before now : List ℕ) (done : ℕ) → IsLoweredBelow at to before now done → entry at done ≤ entry to done
    → IsLoweredBelow at to before now (done + 1)
lowered_kept at to before now done so stays =
    lowered_more at to before now now done so refl (sym (stayed (entry at done) (entry to done) (entry now done) stays)) (λ vb ne. refl)

pub entry-lowered : (at to xs : List ℕ) (vb : ℕ) → vb < length xs → entry (lowered at to xs) vb ≡ lowered_to (entry at vb) (entry to vb) (entry xs vb)
entry-lowered at to xs vb h = get_or-map-range_with_len (λ vb. lowered_to (entry at vb) (entry to vb) (entry xs vb)) 0 (length xs) vb vb 0 h (omega arith)

pub length-lowered : (at to xs : List ℕ) → length (lowered at to xs) ≡ length xs
length-lowered at to xs = length-map-range_with_len (λ vb. lowered_to (entry at vb) (entry to vb) (entry xs vb)) 0 (length xs)

pub lowered_all : (at to before now : List ℕ) (done : ℕ) → IsLoweredBelow at to before now done → length before ≤ done → now ≡ lowered at to before
lowered_all at to before now done so all =
    same_number_lists now (lowered at to before) (so.size ∙ sym (length-lowered at to before))
    (λ vb h. so.low vb (omega (arith, so.size)) ∙ sym (entry-lowered at to before vb (omega (arith, so.size))))

-- a stream that goes back stays one
module _ (to : List ℕ) (s : Stream) (meets : (vb : ℕ) → entry (meet s.at to) vb ≡ min (entry s.at vb) (entry to vb)) (met_size : length (meet s.at to) ≡ length s.at) where
  -- where it falls back it stands at the vector's number, and else where it stood
  fell : (vb : ℕ) → entry to vb < entry s.at vb → entry (meet s.at to) vb ≡ entry to vb
  fell vb falls = meets vb ∙ min-eq_right {n = entry to vb} {m = entry s.at vb} (omega arith)

  kept : (vb : ℕ) → entry s.at vb ≤ entry to vb → entry (meet s.at to) vb ≡ entry s.at vb
  kept vb stays = meets vb ∙ min-eq_left {n = entry s.at vb} {m = entry to vb} stays

  pub stream_back : IsStream s → IsStream (rewound to s)
  stream_back is = record {
    size = length-lowered s.at to s.ends ∙ (is.size ∙ sym met_size);
    before_end = λ vb h.
        let within : vb < length s.ends = omega (arith, met_size, is.size) in
        let there = entry-lowered s.at to s.ends vb within in
        let before = is.before_end vb (omega (arith, met_size)) in
        elim (cases_lt (entry to vb) (entry s.at vb)) [
          | inl falls ↦ omega (arith, there, fallen (entry s.at vb) (entry to vb) (entry s.ends vb) falls, fell vb falls)
          | inr stays ↦ omega (arith, there, stayed (entry s.at vb) (entry to vb) (entry s.ends vb) stays, kept vb stays)
        ];
  }

  -- its markers end no later than before
  pub ends_within : IsStream s → IsCovered (lowered s.at to s.ends) s.ends
  ends_within is vb h =
      let within : vb < length s.ends = omega (arith, length-lowered s.at to s.ends) in
      let there = entry-lowered s.at to s.ends vb within in
      let before = is.before_end vb (omega (arith, is.size)) in
      elim (cases_lt (entry to vb) (entry s.at vb)) [
        | inl falls ↦ omega (arith, there, fallen (entry s.at vb) (entry to vb) (entry s.ends vb) falls)
        | inr stays ↦ omega (arith, there, stayed (entry s.at vb) (entry to vb) (entry s.ends vb) stays)
      ]

  pub marked_back : (began : List ℕ) → IsMarked s began → IsMarked (rewound to s) (lowered s.at to began)
  marked_back began is = record {
    stream = stream_back is.stream;
    size = length-lowered s.at to began ∙ (is.size ∙ sym met_size);
    after_begin = λ vb h.
        let within : vb < length began = omega (arith, length-lowered s.at to began) in
        let there = entry-lowered s.at to began vb within in
        let after = is.after_begin vb within in
        elim (cases_lt (entry to vb) (entry s.at vb)) [
          | inl falls ↦ omega (arith, there, fallen (entry s.at vb) (entry to vb) (entry began vb) falls, fell vb falls)
          | inr stays ↦ omega (arith, there, stayed (entry s.at vb) (entry to vb) (entry began vb) stays, kept vb stays)
        ];
  }
