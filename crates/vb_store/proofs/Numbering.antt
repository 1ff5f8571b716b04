-- Numbered lists of mutations, by one mutation at a time.
use Rattle.std.proofs.Common.{◌≡◌, ◌≢◌, ℕ, suc, ◌+◌, ◌-◌, ◌<◌, ◌≤◌, List, [], ◌∷◌, ◌++◌, Bool, true, false, cond, eqb, leb, ltb, length, get_or, set, take, drop, refl, ap, sym, subst, ◌∙◌, inl, inr, arith, append_assoc, append-nil, length-append}
use Rattle.std.specs.Prelude.{⊤, ◌&&◌, slice_range}
use Rattle.std.specs.List.{filter}
use Rattle.std.proofs.lemmas.Bool.{cases_lt, cond-true, cond-false, lt-ltb, le-leb}
use Rattle.std.proofs.lemmas.Bool.Decides.{eqb_tells, leb_tells}
use Rattle.std.proofs.lemmas.List.Elements.{filter-append}
use Rattle.std.proofs.lemmas.List.FromFn.{get_or-map-range_with_len, length-map-range_with_len}
use Rattle.std.proofs.lemmas.Grind.{same_number_lists, get_or-set_at}
use Rattle.std.proofs.lemmas.List.{get_or-set_other, get_or_past, set_past}
use Rattle.std.proofs.Math.ListN.{length-set}
use Rattle.std.proofs.Math.Seq.{drop-nil, take-nil}
use Rattle.std.proofs.Math.Nat.{sub-zero}
use Rattle.std.proofs.lemmas.Bool.{and_right}
use Rattle.seq_vector.specs.Vectors.{IsCovered}
use Rattle.vb_store.specs.declared.mutation.Mutation.{Mutation}
use Rattle.vb_store.specs.Mutations.{of_vbucket, count_of, IsNext, IsNumberedBehind, IsNumbered, high_of, slice_of}

-- the mutations of two lists, one behind the other
pub of_vbucket-append : (vb : ℕ) (xs ys : List Mutation) → of_vbucket vb (xs ++ ys) ≡ of_vbucket vb xs ++ of_vbucket vb ys
of_vbucket-append vb xs ys = filter-append (λ m. eqb m.vb vb) xs ys

pub count_of-append : (vb : ℕ) (xs ys : List Mutation) → count_of vb (xs ++ ys) ≡ count_of vb xs + count_of vb ys
count_of-append vb xs ys = ap length (of_vbucket-append vb xs ys) ∙ length-append (of_vbucket vb xs) (of_vbucket vb ys)

one_of : (b : Bool) (m : Mutation) (ms : List Mutation) → length (cond b (m ∷ ms) ms) ≡ cond b 1 0 + length ms
one_of true m ms = omega arith
one_of false m ms = omega arith

pub count_of-cons : (vb : ℕ) (m : Mutation) (ms : List Mutation) → count_of vb (m ∷ ms) ≡ cond (eqb m.vb vb) 1 0 + count_of vb ms
count_of-cons vb m ms = one_of (eqb m.vb vb) m (of_vbucket vb ms)

pub count_of-push : (vb : ℕ) (xs : List Mutation) (m : Mutation) → count_of vb (xs ++ m ∷ []) ≡ count_of vb xs + cond (eqb m.vb vb) 1 0
count_of-push vb xs m = omega (arith, count_of-append vb xs (m ∷ []), count_of-cons vb m [])

-- the parts of a numbered list
pub numbered_parts : (n : ℕ) (before xs ys : List Mutation) → IsNumberedBehind n before (xs ++ ys) → IsNumberedBehind n before xs × IsNumberedBehind n (before ++ xs) ys
numbered_parts n before [] ys h = (tt, subst (λ b. IsNumberedBehind n b ys) (sym (append-nil before)) h)
numbered_parts n before (x ∷ xs) ys h =
    let rest = numbered_parts n (before ++ x ∷ []) xs ys h.1 in
    ((h.0, rest.0), subst (λ b. IsNumberedBehind n b ys) (append_assoc before (x ∷ []) xs) rest.1)

pub numbered_whole : (n : ℕ) (before xs ys : List Mutation) → IsNumberedBehind n before xs → IsNumberedBehind n (before ++ xs) ys → IsNumberedBehind n before (xs ++ ys)
numbered_whole n before [] ys h r = subst (λ b. IsNumberedBehind n b ys) (append-nil before) r
numbered_whole n before (x ∷ xs) ys h r =
    (h.0, numbered_whole n (before ++ x ∷ []) xs ys h.1 (subst (λ b. IsNumberedBehind n b ys) (sym (append_assoc before (x ∷ []) xs)) r))

pub numbered_push : (n : ℕ) (log : List Mutation) (m : Mutation) → IsNumbered n log → IsNext n log m → IsNumbered n (log ++ m ∷ [])
numbered_push n log m h next = numbered_whole n [] log (m ∷ []) h (next, tt)

-- the newest numbers
pub length-high_of : (n : ℕ) (log : List Mutation) → length (high_of n log) ≡ n
length-high_of n log = length-map-range_with_len (λ vb. count_of vb log) 0 n

pub entry-high_of : (n : ℕ) (log : List Mutation) (vb : ℕ) → vb < n → get_or (high_of n log) vb 0 ≡ count_of vb log
entry-high_of n log vb h = get_or-map-range_with_len (λ vb. count_of vb log) 0 n vb vb 0 h (omega arith)

pub entry-high_of-le : (n : ℕ) (log : List Mutation) (vb : ℕ) → get_or (high_of n log) vb 0 ≤ count_of vb log
entry-high_of-le n log vb =
    elim (cases_lt vb n) [
      | inl h ↦ omega (arith, entry-high_of n log vb h)
      | inr h ↦ omega (arith, get_or_past (high_of n log) vb 0 (omega (arith, length-high_of n log)))
    ]

-- one more mutation raises the number of its vBucket by one
pub high_of-next : (n : ℕ) (log : List Mutation) (m : Mutation) → high_of n (log ++ m ∷ []) ≡ set (high_of n log) m.vb (get_or (high_of n log) m.vb 0 + 1)
high_of-next n log m =
    let long = λ (l : List Mutation). length-high_of n l in
    let next : ℕ = get_or (high_of n log) m.vb 0 + 1 in
    same_number_lists (high_of n (log ++ m ∷ [])) (set (high_of n log) m.vb next)
    (omega (arith, long (log ++ m ∷ []), long log, length-set (high_of n log) m.vb next))
    (λ k h. let within : k < n = omega (arith, long (log ++ m ∷ [])) in
    elim (eqb_tells m.vb k) [
      | inl w ↦ omega (
        arith,
        entry-high_of n (log ++ m ∷ []) k within,
        entry-high_of n log k within,
        ap (λ b. get_or (high_of n log) b 0) w.1,
        count_of-push k log m,
        cond-true {A = ℕ} (eqb m.vb k) 1 0 w.0,
        get_or-set_at (high_of n log) m.vb k next 0 (sym w.1) (omega (arith, long log, w.1)),
      )
      | inr w ↦ let apart : k ≢ m.vb = λ e. w.1 (sym e) in omega (
        arith,
        entry-high_of n (log ++ m ∷ []) k within,
        entry-high_of n log k within,
        count_of-push k log m,
        cond-false {A = ℕ} (eqb m.vb k) 1 0 w.0,
        get_or-set_other (high_of n log) m.vb k next 0 apart,
      )
    ])

pub high_of-push : (n : ℕ) (log : List Mutation) (m : Mutation) → m.seqno ≡ count_of m.vb log + 1 → high_of n (log ++ m ∷ []) ≡ set (high_of n log) m.vb m.seqno
high_of-push n log m e =
    high_of-next n log m ∙ elim (cases_lt m.vb n) [
      | inl h ↦ ap (set (high_of n log) m.vb) (ap (λ (k : ℕ). k + 1) (entry-high_of n log m.vb h) ∙ sym e)
      | inr h ↦
          let past : length (high_of n log) ≤ m.vb = omega (arith, length-high_of n log) in
          set_past (high_of n log) m.vb (get_or (high_of n log) m.vb 0 + 1) past ∙ sym (set_past (high_of n log) m.vb m.seqno past)
    ]

-- no number is past the count of all mutations
count_of-le : (vb : ℕ) (log : List Mutation) → count_of vb log ≤ length log
count_of-le vb [] = omega arith
count_of-le vb (m ∷ log) =
    elim (eqb_tells m.vb vb) [
      | inl w ↦ omega (arith, count_of-cons vb m log, count_of-le vb log, cond-true {A = ℕ} (eqb m.vb vb) 1 0 w.0)
      | inr w ↦ omega (arith, count_of-cons vb m log, count_of-le vb log, cond-false {A = ℕ} (eqb m.vb vb) 1 0 w.0)
    ]

pub high_of-le : (n : ℕ) (log : List Mutation) (vb : ℕ) → get_or (high_of n log) vb 0 ≤ length log
high_of-le n log vb = omega (arith, entry-high_of-le n log vb, count_of-le vb log)

pub leb_from_lt : (a b : ℕ) → b < a → leb a b ≡ false
leb_from_lt a b h = elim (leb_tells a b) [ inl w ↦ absurd (omega (arith, w.1)) | inr w ↦ w.0 ]

pub ltb_from_le : (a b : ℕ) → b ≤ a → ltb a b ≡ false
ltb_from_le a b h = leb_from_lt (suc a) b (omega arith)

-- the numbers are k + 1, k + 2 and so on
abbrev pub IsCountedFrom : ℕ → List Mutation → Type 0
IsCountedFrom k [] = ⊤
IsCountedFrom k (m ∷ ms) = (m.seqno ≡ k + 1) × IsCountedFrom (k + 1) ms

pub counted_vbucket : (n vb : ℕ) (before ms : List Mutation) → IsNumberedBehind n before ms → IsCountedFrom (count_of vb before) (of_vbucket vb ms)
counted_vbucket n vb before [] h = tt
counted_vbucket n vb before (m ∷ ms) h =
    let rest = counted_vbucket n vb (before ++ m ∷ []) ms h.1 in
    let P : Bool → Type 0 = λ b. IsCountedFrom (count_of vb before) (cond b (m ∷ of_vbucket vb ms) (of_vbucket vb ms)) in
    let push = count_of-push vb before m in
    elim (eqb_tells m.vb vb) [
      | inl w ↦ subst P (sym w.0) (
        h.0.number ∙ ap (λ b. count_of b before + 1) w.1,
        subst (λ k. IsCountedFrom k (of_vbucket vb ms)) (push ∙ ap (λ b. count_of vb before + cond b 1 0) w.0) rest,
      )
      | inr w ↦ subst P (sym w.0) (subst (λ k. IsCountedFrom k (of_vbucket vb ms)) (push ∙ ap (λ b. count_of vb before + cond b 1 0) w.0 ∙ omega arith) rest)
    ]

-- whether a mutation's number is above a and at most b
abbrev pub is_numbered_within : ℕ → ℕ → Mutation → Bool
is_numbered_within a b m = ltb a m.seqno && leb m.seqno b

pub counted_within : (k a b : ℕ) (ms : List Mutation) → IsCountedFrom k ms → filter (is_numbered_within a b) ms ≡ take ((b - k) - (a - k)) (drop (a - k) ms)
counted_within k a b [] h = sym (ap (take (b - k - (a - k))) (drop-nil {A = Mutation} (a - k)) ∙ take-nil {A = Mutation} (b - k - (a - k)))
counted_within k a b (m ∷ ms) h =
    let later = filter (is_numbered_within a b) ms in
    let rest = counted_within (k + 1) a b ms h.1 in
    elim (cases_lt k a) [
      | inl below ↦
          let out : ltb a m.seqno ≡ false = ltb_from_le a m.seqno (omega (arith, h.0)) in
          let i : a - k ≡ suc (a - (k + 1)) = omega arith in
          let j : b - k - (a - k) ≡ b - (k + 1) - (a - (k + 1)) = omega arith in
          rw (out, j, i) rest
      | inr reached ↦
          let in_first : ltb a m.seqno ≡ true = lt-ltb a m.seqno (omega (arith, h.0)) in
          let i : a - k ≡ 0 = omega arith in
          let i' : a - (k + 1) ≡ 0 = omega arith in
          elim (cases_lt k b) [
            | inl within ↦
                let in_second : leb m.seqno b ≡ true = le-leb m.seqno b (omega (arith, h.0)) in
                let j : b - k ≡ suc (b - (k + 1)) = omega arith in
                let tail : later ≡ take (b - (k + 1)) ms = rest ∙ rw (i', sub-zero) refl in
                rw (in_first, in_second, i, j, sub-zero) (ap (λ xs. m ∷ xs) tail)
            | inr past ↦
                let out : leb m.seqno b ≡ false = leb_from_lt m.seqno b (omega (arith, h.0)) in
                let j : b - k ≡ 0 = omega arith in
                let j' : b - (k + 1) ≡ 0 = omega arith in
                rw (in_first, out, i, j) (rest ∙ rw (i', j') refl)
          ]
    ]

-- the mutations of a vBucket by their numbers are those at the places before them
pub slice_of-places : (n : ℕ) (log : List Mutation) (vb after upto : ℕ) → IsNumbered n log → slice_of log vb after upto ≡ slice_range (of_vbucket vb log) after upto
slice_of-places n log vb after upto h =
    counted_within 0 after upto (of_vbucket vb log) (counted_vbucket n vb [] log h) ∙ rw (sub-zero upto, sub-zero after) refl

-- a slice up to a number that the list has is not changed by what comes later
above_all : (n vb after upto : ℕ) (before ms : List Mutation) → IsNumberedBehind n before ms → upto ≤ count_of vb before → slice_of ms vb after upto ≡ []
above_all n vb after upto before [] h le = refl
above_all n vb after upto before (x ∷ xs) h le =
    let rest = above_all n vb after upto (before ++ x ∷ []) xs h.1 (omega (arith, count_of-push vb before x)) in
    elim (eqb_tells x.vb vb) [
      | inr other ↦ rw other.0 rest
      | inl here ↦
          let out : leb x.seqno upto ≡ false = leb_from_lt x.seqno upto (omega (arith, h.0.number, ap (λ b. count_of b before) here.1)) in
          rw (here.0, and_right (ltb after x.seqno) (leb x.seqno upto) out) rest
    ]

pub slice_of-append : (n : ℕ) (log more : List Mutation) (vb after upto : ℕ) → IsNumbered n (log ++ more) → upto ≤ count_of vb log → slice_of (log ++ more) vb after upto ≡ slice_of log vb after upto
slice_of-append n log more vb after upto h le =
    ap (filter (is_numbered_within after upto)) (of_vbucket-append vb log more) ∙ filter-append (is_numbered_within after upto) (of_vbucket vb log) (of_vbucket vb more)
    ∙ ap (λ ys. slice_of log vb after upto ++ ys) (above_all n vb after upto log more (numbered_parts n [] log more h).1 le) ∙ append-nil _

-- the newest numbers only grow
pub high_of-grows : (n : ℕ) (log more : List Mutation) → IsCovered (high_of n log) (high_of n (log ++ more))
high_of-grows n log more = λ vb h.
    let lt : vb < n = omega (arith, length-high_of n log) in
    omega (arith, entry-high_of n log vb lt, entry-high_of n (log ++ more) vb lt, count_of-append vb log more)
