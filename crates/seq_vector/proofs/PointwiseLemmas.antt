-- The entries of what is made of two vectors vBucket by vBucket.
use Rattle.std.proofs.Common.{◌≡◌, ◌≢◌, ℕ, zero, suc, ◌+◌, ◌<◌, ◌≤◌, List, [], ◌∷◌, length, get_or, set, refl, ap, sym, subst, ◌∙◌, inl, inr, arith}
use Rattle.std.proofs.lemmas.Bool.{cases_lt}
use Rattle.std.proofs.lemmas.Grind.{same_number_lists}
use Rattle.std.proofs.lemmas.List.{get_or-set_same, get_or-set_other}
use Rattle.std.proofs.Math.ListN.{length-set}
use Rattle.seq_vector.specs.Vectors.{pointwise}

pub length-pointwise : (f : ℕ → ℕ → ℕ) (v w : List ℕ) → length v ≡ length w → length (pointwise f v w) ≡ length v
length-pointwise f [] w e = refl
length-pointwise f (v ∷ vs) [] e = absurd (omega arith)
length-pointwise f (v ∷ vs) (w ∷ ws) e = ap suc (length-pointwise f vs ws (omega arith))

pub get_or-pointwise : (f : ℕ → ℕ → ℕ) (v w : List ℕ) (vb : ℕ) → f 0 0 ≡ 0 → length v ≡ length w → get_or (pointwise f v w) vb 0 ≡ f (get_or v vb 0) (get_or w vb 0)
get_or-pointwise f [] [] vb z e = sym z
get_or-pointwise f [] (w ∷ ws) vb z e = absurd (omega arith)
get_or-pointwise f (v ∷ vs) [] vb z e = absurd (omega arith)
get_or-pointwise f (v ∷ vs) (w ∷ ws) zero z e = refl
get_or-pointwise f (v ∷ vs) (w ∷ ws) (suc vb) z e = get_or-pointwise f vs ws vb z (omega arith)

-- the vBuckets below `done` are as f makes them of the two vectors, and the others as before
pub record IsMadeBelow (f : ℕ → ℕ → ℕ) (now before other : List ℕ) (done : ℕ) : Type 0 where
  pub size : length now ≡ length before
  pub made : (vb : ℕ) → vb < done → get_or now vb 0 ≡ f (get_or before vb 0) (get_or other vb 0)
  pub kept : (vb : ℕ) → done ≤ vb → get_or now vb 0 ≡ get_or before vb 0

pub made_none : (f : ℕ → ℕ → ℕ) (before other : List ℕ) → IsMadeBelow f before before other 0
made_none f before other = record { size = refl; made = λ vb h. absurd (omega arith); kept = λ vb h. refl }

pub made_more : (f : ℕ → ℕ → ℕ) (now before other : List ℕ) (done x : ℕ) → IsMadeBelow f now before other done → done < length now → x ≡ f (get_or now done 0) (get_or other done 0) → IsMadeBelow f (set now done x) before other (done + 1)
made_more f now before other done x so h e =
    record {
      size = omega (arith, length-set now done x, so.size);
      made = λ vb lt. elim (cases_lt vb done) [
        | inl below ↦ let ne : vb ≢ done = omega arith in rw get_or-set_other (so.made vb below)
        | inr above ↦ let same : vb ≡ done = omega arith in
            let at : get_or (set now done x) done 0 ≡ f (get_or before done 0) (get_or other done 0) = get_or-set_same now done x 0 h ∙ e ∙ ap (λ y. f y (get_or other done 0)) (so.kept done (omega arith)) in
            subst (λ k. get_or (set now done x) k 0 ≡ f (get_or before k 0) (get_or other k 0)) (sym same) at
      ];
      kept = λ vb le. let ne : vb ≢ done = omega arith in rw get_or-set_other (so.kept vb (omega arith));
    }

pub made_all : (f : ℕ → ℕ → ℕ) (now before other : List ℕ) (done : ℕ) → f 0 0 ≡ 0 → length before ≡ length other → IsMadeBelow f now before other done → done ≡ length other → now ≡ pointwise f before other
made_all f now before other done z e so all =
    same_number_lists now (pointwise f before other) (so.size ∙ sym (length-pointwise f before other e))
    (λ vb h. so.made vb (omega (arith, so.size)) ∙ sym (get_or-pointwise f before other vb z e))
