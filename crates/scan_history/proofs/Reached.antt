-- Vectors that are nowhere above the newest numbers.
use Rattle.std.proofs.Common.{◌≡◌, ℕ, ◌<◌, ◌≤◌, List, [], ◌∷◌, ◌++◌, length, slice_set, get_or, set, refl, sym, ◌∙◌, subst, inl, inr, arith, length-set, get_or-set_same, get_or-set_other}
use Rattle.std.proofs.lemmas.Bool.{cases_eq}
use Rattle.std.proofs.lemmas.List.{length-replicate, get_or-replicate}
use Rattle.seq_vector.specs.Vectors.{IsCovered, join, zeros}
use Rattle.vb_store.specs.declared.mutation.Mutation.{Mutation}
use Rattle.vb_store.specs.Mutations.{IsNext, high_of}
use Rattle.scan_history.specs.Consistent.{IsReached}
use Rattle.scan_history.specs.inner.Known.{Known}

-- zero is nowhere above
pub reached_zero : (high : List ℕ) → IsReached high (zeros (length high))
reached_zero high =
    record {
      size = length-replicate {A = ℕ} (length high) 0;
      below = λ vb within.
          let inside : vb < length high = omega (arith, within, length-replicate {A = ℕ} (length high) 0) in
          let none : get_or (zeros (length high)) vb 0 ≡ 0 = get_or-replicate (length high) vb 0 0 inside in
          omega (arith, none);
    }

module _ (known : Known) where
  pub reached_self : (high : List ℕ) → IsReached high high
  reached_self high = record { size = refl; below = known.reflexive high }

  pub reached_higher : (high higher v : List ℕ) → length high ≡ length higher → IsCovered high higher → IsReached high v → IsReached higher v
  reached_higher high higher v same up r = record { size = r.size ∙ same; below = known.transitive v high higher r.size r.below up }

  -- the newest numbers of more mutations
  pub reached_later : (n : ℕ) (log more : List Mutation) (v : List ℕ) → IsReached (high_of n log) v → IsReached (high_of n (log ++ more)) v
  reached_later n log more v r =
      reached_higher (high_of n log) (high_of n (log ++ more)) v (known.high_size n log ∙ sym (known.high_size n (log ++ more))) (known.high_grows n log more) r

  pub reached_join : (high v w : List ℕ) → IsReached high v → IsReached high w → IsReached high (join v w)
  reached_join high v w r t =
      let same : length v ≡ length w = r.size ∙ sym t.size in
      record { size = known.join_size v w same ∙ r.size; below = known.join_least v w high same r.below t.below }

  pub reached_zeros : (n : ℕ) → IsReached (high_of n []) (zeros n)
  reached_zeros n = subst (λ v. IsReached (high_of n []) v) (known.high_none n) (reached_self (high_of n []))

  -- both with the same new entry
  pub covered_set : (v w : List ℕ) (i x : ℕ) → length v ≡ length w → IsCovered v w → IsCovered (slice_set v i x) (slice_set w i x)
  covered_set v w i x same up vb within =
      elim (cases_eq vb i) [
        | inl here ↦
            let in_v : i < length v = omega (arith, here, within, length-set v i x) in
            let in_w : i < length w = omega (arith, in_v, same) in
            let one : get_or (set v i x) i 0 ≡ x = get_or-set_same v i x 0 in_v in
            let two : get_or (set w i x) i 0 ≡ x = get_or-set_same w i x 0 in_w in
            subst (λ k. get_or (set v i x) k 0 ≤ get_or (set w i x) k 0) (sym here) (omega (arith, one, two))
        | inr there ↦
            let one : get_or (set v i x) vb 0 ≡ get_or v vb 0 = get_or-set_other v i vb x 0 there in
            let two : get_or (set w i x) vb 0 ≡ get_or w vb 0 = get_or-set_other w i vb x 0 there in
            let old : get_or v vb 0 ≤ get_or w vb 0 = up vb (omega (arith, within, length-set v i x)) in
            omega (arith, one, two, old)
      ]

  pub reached_next : (n : ℕ) (log : List Mutation) (m : Mutation) (v : List ℕ) → IsNext n log m → IsReached (high_of n log) v
      → IsReached (high_of n (log ++ m ∷ [])) (slice_set v m.vb m.seqno)
  reached_next n log m v next r =
      subst (λ h. IsReached h (slice_set v m.vb m.seqno)) (sym (known.high_next n log m next)) (record {
        size = length-set v m.vb m.seqno ∙ r.size ∙ sym (length-set (high_of n log) m.vb m.seqno);
        below = covered_set v (high_of n log) m.vb m.seqno r.size r.below;
      })
