-- The numbers in a slice.
use Rattle.std.proofs.Common.{◌≡◌, ℕ, zero, suc, ◌+◌, ◌-◌, ◌≤◌, List, [], ◌∷◌, ◌++◌, Bool, true, false, cond, Some, ltb, leb, length, take, drop, refl, ap, sym, subst, ◌∙◌, inl, inr, arith, length-drop}
use Rattle.std.specs.Prelude.{◌&&◌, slice_get, slice_range}
use Rattle.std.specs.List.{filter}
use Rattle.std.proofs.lemmas.Bool.{cases_lt, lt-ltb}
use Rattle.std.proofs.lemmas.Bool.Decides.{eqb_tells}
use Rattle.std.proofs.lemmas.List.{length-take, drop-drop}
use Rattle.std.proofs.Math.Seq.{take-nil}
use Rattle.seq_vector.specs.Vectors.{vbucket_of}
use Rattle.vb_store.specs.declared.mutation.Mutation.{Mutation}
use Rattle.vb_store.specs.Mutations.{of_vbucket, count_of, IsNumberedBehind, IsNumbered, slice_of}
use Rattle.vb_store.proofs.Numbering.{count_of-push, slice_of-places, is_numbered_within, ltb_from_le}

take-sum : (m n j : ℕ) (xs : List Mutation) → j ≡ m + n → take j xs ≡ take m xs ++ take n (drop m xs)
take-sum zero n j xs e = let same : j ≡ n = omega arith in ap (λ i. take i xs) same
take-sum (suc m) n zero xs e = absurd (omega arith)
take-sum (suc m) n (suc j) [] e = sym (take-nil {A = Mutation} n)
take-sum (suc m) n (suc j) (x ∷ xs) e = ap (λ ys. x ∷ ys) (take-sum m n j xs (omega arith))

slice_get-take : (n k : ℕ) (xs : List Mutation) (m : Mutation) → slice_get (take n xs) k ≡ Some m → slice_get xs k ≡ Some m
slice_get-take zero k xs m e = cc
slice_get-take (suc n) k [] m e = e
slice_get-take (suc n) zero (x ∷ xs) m e = e
slice_get-take (suc n) (suc k) (x ∷ xs) m e = slice_get-take n k xs m e

slice_get-drop : (a k j : ℕ) (xs : List Mutation) → j ≡ a + k → slice_get (drop a xs) k ≡ slice_get xs j
slice_get-drop zero k j xs e = let same : k ≡ j = omega arith in ap (slice_get xs) same
slice_get-drop (suc a) k zero xs e = absurd (omega arith)
slice_get-drop (suc a) k (suc j) [] e = refl
slice_get-drop (suc a) k (suc j) (x ∷ xs) e = slice_get-drop a k j xs (omega arith)

pub length-slice_of : (n : ℕ) (log : List Mutation) (vb after upto : ℕ) → IsNumbered n log → upto ≤ count_of vb log → length (slice_of log vb after upto) ≡ upto - after
length-slice_of n log vb after upto h le =
    ap length (slice_of-places n log vb after upto h) ∙ length-take (upto - after) (drop after (of_vbucket vb log))
    ∙ omega (arith, length-drop after (of_vbucket vb log))

pub slice_of-parts : (n : ℕ) (log : List Mutation) (vb after mid upto : ℕ) → IsNumbered n log → after ≤ mid → mid ≤ upto → slice_of log vb after upto ≡ slice_of log vb after mid ++ slice_of log vb mid upto
slice_of-parts n log vb after mid upto h low high =
    let of = of_vbucket vb log in
    let place : after + (mid - after) ≡ mid = omega arith in
    let moved : drop (mid - after) (drop after of) ≡ drop mid of = drop-drop (mid - after) after of ∙ ap (λ i. drop i of) place in
    slice_of-places n log vb after upto h
    ∙ take-sum (mid - after) (upto - mid) (upto - after) (drop after of) (omega arith)
    ∙ ap (λ ys. take (mid - after) (drop after of) ++ take (upto - mid) ys) moved
    ∙ ap (λ ys. ys ++ slice_range of mid upto) (sym (slice_of-places n log vb after mid h))
    ∙ ap (λ ys. slice_of log vb after mid ++ ys) (sym (slice_of-places n log vb mid upto h))

filter-filter : (p q r : Mutation → Bool) → ((m : Mutation) → (q m && p m) ≡ r m) → (xs : List Mutation) → filter p (filter q xs) ≡ filter r xs
filter-filter p q r both [] = refl
filter-filter p q r both (x ∷ xs) =
    let rest = filter-filter p q r both xs in
    elim (q x) as (λ b. (b && p x) ≡ r x → filter p (cond b (x ∷ filter q xs) (filter q xs)) ≡ cond (r x) (x ∷ filter r xs) (filter r xs)) [
      | true ↦ λ e. ap (λ b. cond b (x ∷ filter p (filter q xs)) (filter p (filter q xs))) e ∙ ap (λ ys. cond (r x) (x ∷ ys) ys) rest
      | false ↦ λ e. rest ∙ ap (λ b. cond b (x ∷ filter r xs) (filter r xs)) e
    ] (both x)

within_above : (after mid upto s : ℕ) → after ≤ mid → ((ltb after s && leb s upto) && ltb mid s) ≡ (ltb mid s && leb s upto)
within_above after mid upto s le =
    elim (cases_lt mid s) [
      | inl lt ↦
          let a : ltb mid s ≡ true = lt-ltb mid s lt in
          let b : ltb after s ≡ true = lt-ltb after s (omega arith) in
          rw (a, b) (elim (leb s upto) as (λ c. (c && true) ≡ c) [ true ↦ refl | false ↦ refl ])
      | inr ge ↦
          let a : ltb mid s ≡ false = ltb_from_le mid s ge in
          rw a (elim (ltb after s && leb s upto) as (λ c. (c && false) ≡ false) [ true ↦ refl | false ↦ refl ])
    ]

pub slice_of-above : (log : List Mutation) (vb after mid upto : ℕ) → after ≤ mid → filter (λ m. ltb mid m.seqno) (slice_of log vb after upto) ≡ slice_of log vb mid upto
slice_of-above log vb after mid upto le =
    filter-filter (λ m. ltb mid m.seqno) (is_numbered_within after upto) (is_numbered_within mid upto) (λ m. within_above after mid upto m.seqno le) (of_vbucket vb log)

-- what stands at a place among the mutations of a vBucket
pub record StandsAt (n vb k : ℕ) (m : Mutation) : Type 0 where
  pub bucket : m.vb ≡ vb
  pub number : m.seqno ≡ k + 1
  pub own : m.vb ≡ vbucket_of m.id n

stands_at : (n vb k : ℕ) (before ms : List Mutation) (m : Mutation) → IsNumberedBehind n before ms → slice_get (of_vbucket vb ms) k ≡ Some m → StandsAt n vb (count_of vb before + k) m
stands_at n vb k before [] m h e = cc
stands_at n vb zero before (x ∷ xs) m h e =
    let push = count_of-push vb before x in
    elim (eqb_tells x.vb vb) [
      | inr w ↦
          let same : count_of vb (before ++ x ∷ []) + 0 ≡ count_of vb before + 0 = omega (arith, push, ap (λ b. cond {A = ℕ} b 1 0) w.0) in
          subst (λ j. StandsAt n vb j m) same (stands_at n vb 0 (before ++ x ∷ []) xs m h.1 (rw w.0 at e))
      | inl w ↦
          let first = rw w.0 at e in
          let found : x ≡ m = cc in
          subst (StandsAt n vb (count_of vb before + 0)) found
          (record { bucket = w.1; number = h.0.number ∙ omega (arith, ap (λ b. count_of b before) w.1); own = h.0.bucket })
    ]
stands_at n vb (suc k) before (x ∷ xs) m h e =
    let push = count_of-push vb before x in
    elim (eqb_tells x.vb vb) [
      | inr w ↦
          let same : count_of vb (before ++ x ∷ []) + suc k ≡ count_of vb before + suc k = omega (arith, push, ap (λ b. cond {A = ℕ} b 1 0) w.0) in
          subst (λ j. StandsAt n vb j m) same (stands_at n vb (suc k) (before ++ x ∷ []) xs m h.1 (rw w.0 at e))
      | inl w ↦
          let same : count_of vb (before ++ x ∷ []) + k ≡ count_of vb before + suc k = omega (arith, push, ap (λ b. cond {A = ℕ} b 1 0) w.0) in
          subst (λ j. StandsAt n vb j m) same (stands_at n vb k (before ++ x ∷ []) xs m h.1 (rw w.0 at e))
    ]

pub slice_of-numbers : (n : ℕ) (log : List Mutation) (vb after upto k : ℕ) (m : Mutation) → IsNumbered n log → slice_get (slice_of log vb after upto) k ≡ Some m → (m.vb ≡ vb) × (m.seqno ≡ after + k + 1) × (m.vb ≡ vbucket_of m.id n)
slice_of-numbers n log vb after upto k m h e =
    let of = of_vbucket vb log in
    let placed : slice_get (slice_range of after upto) k ≡ Some m = ap (λ ys. slice_get ys k) (sym (slice_of-places n log vb after upto h)) ∙ e in
    let there : slice_get of (after + k) ≡ Some m = sym (slice_get-drop after k (after + k) of refl) ∙ slice_get-take (upto - after) k (drop after of) m placed in
    let stands = stands_at n vb (after + k) [] log m h there in
    (stands.bucket, omega (arith, stands.number), stands.own)
