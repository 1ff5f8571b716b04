-- Changes of documents by mutations.
use Rattle.std.proofs.Common.{◌≡◌, ◌≢◌, ℕ, ◌+◌, ◌<◌, ◌≤◌, List, [], ◌∷◌, ◌++◌, Bool, true, false, cond, Option, Some, None, leb, eqb, get_or, length, set, refl, ap, sym, subst, ◌∙◌, inl, inr, arith, append_assoc, append-nil, ltb, take, drop, suc, ◌-◌}
use Rattle.std.specs.List.{filter, fold, Contains}
use Rattle.std.specs.Ordering.{nat_cmp, eq_by_cmp, is_eq}
use Rattle.std.specs.declared.cmp.Ordering.{Ordering}
use Rattle.std.specs.declared.cmp.Ordering.TheVariants.{Less, Equal, Greater}
use Rattle.std.specs.Cmp.Lexicographic.{slice_cmp, nat_list_cmp_total}
use Rattle.std.specs.FinMap as map
use Rattle.std.proofs.lemmas.Bool.{cases_lt, lt-ltb, le-leb, cond-true, eq-eqb}
use Rattle.std.proofs.lemmas.Bool.Decides.{leb_tells, eqb_tells}
use Rattle.std.proofs.lemmas.List.{get_or-set_other, get_or_past, get_or-replicate, length-replicate, take-append-drop}
use Rattle.std.proofs.Math.Seq.{drop-append_seam, drop-cons}
use Rattle.std.specs.Prelude.{slice_range, replicate}
use Rattle.std.proofs.lemmas.List.Elements.{filter-append}
use Rattle.std.proofs.lemmas.List.Sums.{fold-append}
use Rattle.std.proofs.lemmas.Map.Text.{is_eq-slice_cmp}
use Rattle.std.specs.Str.{bytes_eq}
use Rattle.std.proofs.lemmas.Grind.{get_or-set_at}
use Rattle.n1ql_value.specs.declared.value.Value.{Value}
use Rattle.seq_vector.specs.Vectors.{vbucket_of, IsCovered}
use Rattle.vb_store.specs.declared.mutation.Mutation.{Mutation}
use Rattle.vb_store.specs.Mutations.{of_vbucket, count_of, IsNumberedBehind, IsNumbered, high_of, slice_of, current_of}
use Rattle.n1ql_value.specs.Documents.{Documents}
use Rattle.vb_store.specs.Documents.{with_body, with_mutation, with_mutations, reaches, documents_at, body_of}
use Rattle.vb_store.proofs.Numbering.{numbered_parts, of_vbucket-append, slice_of-places, entry-high_of, entry-high_of-le, count_of-append, count_of-cons, count_of-push, leb_from_lt, ltb_from_le}

abbrev is_same : List ℕ → List ℕ → Bool
is_same q id = eq_by_cmp (slice_cmp nat_cmp) q id

get-with_body : (docs : Documents) (id : List ℕ) (body : Option Value) (q : List ℕ) → map.get (with_body docs id body) q ≡ cond (is_same q id) body (map.get docs q)
get-with_body docs id None q = map.get-remove nat_list_cmp_total docs id q
get-with_body docs id (Some doc) q = map.get-insert nat_list_cmp_total docs id doc q

pub get-with_mutation : (docs : Documents) (m : Mutation) (q : List ℕ) → map.get (with_mutation docs m) q ≡ cond (is_same q m.id) m.body (map.get docs q)
get-with_mutation docs m q = get-with_body docs m.id m.body q

equal : (r : Ordering) → is_eq r ≡ true → r ≡ Equal
equal Less e = cc
equal Equal e = refl
equal Greater e = cc

same_ids : (x y : List ℕ) → is_same x y ≡ true → x ≡ y
same_ids x y e = map.slice_cmp-IsAntisymmetric map.nat_cmp-IsAntisymmetric x y (equal _ e)

swapped : {A : Type 0} (a b : Bool) (x y z : A) → (a ≡ true → b ≡ true → ⊥) → cond a x (cond b y z) ≡ cond b y (cond a x z)
swapped true true x y z apart = absurd (apart refl refl)
swapped true false x y z apart = refl
swapped false b x y z apart = refl

-- changes of two ids commute
pub with_mutation-swap : (docs : Documents) (x y : Mutation) → x.id ≢ y.id → with_mutation (with_mutation docs x) y ≡ with_mutation (with_mutation docs y) x
with_mutation-swap docs x y apart =
    map.same_map nat_list_cmp_total (map.slice_cmp-IsAntisymmetric map.nat_cmp-IsAntisymmetric) _ _ (λ q.
    get-with_mutation (with_mutation docs x) y q ∙ ap (cond (is_same q y.id) y.body) (get-with_mutation docs x q)
    ∙ swapped (is_same q y.id) (is_same q x.id) _ _ _ (λ a b. apart (sym (same_ids q x.id b) ∙ same_ids q y.id a))
    ∙ sym (get-with_mutation (with_mutation docs y) x q ∙ ap (cond (is_same q x.id) x.body) (get-with_mutation docs y q)))

-- a change commutes with those of other ids after it, where the vector had not come as far as it
pub with_mutations-after : (n : ℕ) (v : List ℕ) (m : Mutation) (before ms : List Mutation) (docs : Documents) → IsNumberedBehind n before ms → m.vb ≡ vbucket_of m.id n → get_or v m.vb 0 ≤ count_of m.vb before → with_mutations (with_mutation docs m) (filter (reaches v) ms) ≡ with_mutation (with_mutations docs (filter (reaches v) ms)) m
with_mutations-after n v m before [] docs h bucket low = refl
with_mutations-after n v m before (x ∷ xs) docs h bucket low =
    let later = filter (reaches v) xs in
    let rest : (d : Documents) → with_mutations (with_mutation d m) later ≡ with_mutation (with_mutations d later) m =
    λ d. with_mutations-after n v m (before ++ x ∷ []) xs d h.1 bucket (omega (arith, count_of-push m.vb before x)) in
    let P : Bool → Type 0 = λ b. with_mutations (with_mutation docs m) (cond b (x ∷ later) later) ≡ with_mutation (with_mutations docs (cond b (x ∷ later) later)) m in
    elim (leb_tells x.seqno (get_or v x.vb 0)) [
      | inl w ↦
          let apart : m.id ≢ x.id = λ e.
          let same : x.vb ≡ m.vb = h.0.bucket ∙ ap (λ id. vbucket_of id n) (sym e) ∙ sym bucket in
          omega (arith, w.1, h.0.number, low, ap (λ b. count_of b before) same, ap (λ b. get_or v b 0) same) in
          subst P (sym w.0) (ap (λ d. with_mutations d later) (with_mutation-swap docs m x apart) ∙ rest (with_mutation docs x))
      | inr w ↦ subst P (sym w.0) (rest docs)
    ]

-- the law of a slice, behind the mutations before: v comes to `upto` at vb by the mutations in between
pub with_mutations-slice : (n : ℕ) (v : List ℕ) (vb upto : ℕ) (before ms : List Mutation) (docs : Documents) → IsNumberedBehind n before ms → vb < length v → get_or v vb 0 ≤ upto → with_mutations docs (filter (reaches (set v vb upto)) ms) ≡ with_mutations (with_mutations docs (filter (reaches v) ms)) (slice_of ms vb (get_or v vb 0) upto)
with_mutations-slice n v vb upto before [] docs h within le = refl
with_mutations-slice n v vb upto before (x ∷ xs) docs h within le =
    let a = get_or v vb 0 in
    let rest : (d : Documents) → with_mutations d (filter (reaches (set v vb upto)) xs) ≡ with_mutations (with_mutations d (filter (reaches v) xs)) (slice_of xs vb a upto) =
    λ d. with_mutations-slice n v vb upto (before ++ x ∷ []) xs d h.1 within le in
    elim (eqb_tells x.vb vb) [
      | inr other ↦
          let kept : get_or (set v vb upto) x.vb 0 ≡ get_or v x.vb 0 = get_or-set_other v vb x.vb upto 0 other.1 in
          elim (leb_tells x.seqno (get_or v x.vb 0)) [
            | inl had ↦ rw (other.0, kept, had.0) (rest (with_mutation docs x))
            | inr new ↦ rw (other.0, kept, new.0) (rest docs)
          ]
      | inl here ↦
          let raised : get_or (set v vb upto) x.vb 0 ≡ upto = get_or-set_at v vb x.vb upto 0 here.1 within in
          let old : get_or v x.vb 0 ≡ a = ap (λ b. get_or v b 0) here.1 in
          elim (cases_lt a x.seqno) [
            | inr had ↦
                let e : leb x.seqno a ≡ true = le-leb x.seqno a had in
                let e' : leb x.seqno upto ≡ true = le-leb x.seqno upto (omega arith) in
                let out : ltb a x.seqno ≡ false = ltb_from_le a x.seqno had in
                rw (here.0, raised, old, e, e', out) (rest (with_mutation docs x))
            | inl above ↦
                let e : leb x.seqno a ≡ false = leb_from_lt x.seqno a above in
                let after : ltb a x.seqno ≡ true = lt-ltb a x.seqno above in
                elim (cases_lt upto x.seqno) [
                  | inr reached ↦
                      let e' : leb x.seqno upto ≡ true = le-leb x.seqno upto reached in
                      let moved = with_mutations-after n v x (before ++ x ∷ []) xs docs h.1 h.0.bucket (omega (arith, count_of-push x.vb before x, h.0.number, old)) in
                      rw (here.0, raised, old, e, e', after) (rest (with_mutation docs x) ∙ ap (λ d. with_mutations d (slice_of xs vb a upto)) moved)
                  | inl past ↦
                      let e' : leb x.seqno upto ≡ false = leb_from_lt x.seqno upto past in
                      rw (here.0, raised, old, e, e', after) (rest docs)
                ]
          ]
    ]

-- documents at High
pub all_reached : (n : ℕ) (v : List ℕ) (before ms : List Mutation) → IsNumberedBehind n before ms → ((vb : ℕ) → vb < n → count_of vb (before ++ ms) ≤ get_or v vb 0) → 0 < n → filter (reaches v) ms ≡ ms
all_reached n v before [] h high some = refl
all_reached n v before (x ∷ xs) h high some =
    let bucket : x.vb < n = omega (arith, h.0.bucket) in
    let e : leb x.seqno (get_or v x.vb 0) ≡ true = le-leb x.seqno (get_or v x.vb 0)
    (omega (arith, high x.vb bucket, h.0.number, count_of-append x.vb before (x ∷ xs), count_of-cons x.vb x xs, cond-true {A = ℕ} (eqb x.vb x.vb) 1 0 (eq-eqb x.vb x.vb refl))) in
    rw e (ap (λ ys. x ∷ ys) (all_reached n v (before ++ x ∷ []) xs h.1 (λ vb lt. subst (λ (l : List Mutation). count_of vb l ≤ get_or v vb 0) (sym (append_assoc before (x ∷ []) xs)) (high vb lt)) some))

pub none_reached : (n : ℕ) (v : List ℕ) (before ms : List Mutation) → IsNumberedBehind n before ms → ((vb : ℕ) → get_or v vb 0 ≤ count_of vb before) → filter (reaches v) ms ≡ []
none_reached n v before [] h low = refl
none_reached n v before (x ∷ xs) h low =
    let e : leb x.seqno (get_or v x.vb 0) ≡ false = leb_from_lt x.seqno (get_or v x.vb 0) (omega (arith, low x.vb, h.0.number)) in
    rw e (none_reached n v (before ++ x ∷ []) xs h.1 (λ vb. omega (arith, low vb, count_of-push vb before x)))

pub documents_at-high : (n : ℕ) (log : List Mutation) → IsNumbered n log → 0 < n → documents_at log (high_of n log) ≡ with_mutations map.empty log
unfolding documents_at
documents_at-high n log h some = ap (with_mutations map.empty) (all_reached n (high_of n log) [] log h (λ vb lt. omega (arith, entry-high_of n log vb lt)) some)

pub documents_at-append : (n : ℕ) (log more : List Mutation) (v : List ℕ) → IsNumbered n (log ++ more) → IsCovered v (high_of n log) → documents_at (log ++ more) v ≡ documents_at log v
unfolding documents_at
documents_at-append n log more v h covered =
    let none : filter (reaches v) more ≡ [] = none_reached n v log more (numbered_parts n [] log more h).1
    (λ vb. elim (cases_lt vb (length v)) [
      | inl lt ↦ omega (arith, covered vb lt, entry-high_of-le n log vb)
      | inr ge ↦ omega (arith, get_or_past v vb 0 ge)
    ]) in
    ap (with_mutations map.empty) (filter-append (reaches v) log more ∙ ap (λ ys. filter (reaches v) log ++ ys) none ∙ append-nil _)

pub documents_at-slice : (n : ℕ) (log : List Mutation) (v : List ℕ) (vb upto : ℕ) → IsNumbered n log → vb < length v → get_or v vb 0 ≤ upto → documents_at log (set v vb upto) ≡ with_mutations (documents_at log v) (slice_of log vb (get_or v vb 0) upto)
unfolding documents_at
documents_at-slice n log v vb upto h within le = with_mutations-slice n v vb upto [] log map.empty h within le

-- one mutation between two numbers that follow one another
pub slice_of-one : (n : ℕ) (before after : List Mutation) (m : Mutation) (k : ℕ) → IsNumbered n (before ++ m ∷ after) → k + 1 ≡ m.seqno → slice_of (before ++ m ∷ after) m.vb k m.seqno ≡ m ∷ []
slice_of-one n before after m k h e =
    let vb = m.vb in
    let next = (numbered_parts n [] before (m ∷ after) h).1.0.number in
    let first = of_vbucket vb before in
    let rest = of_vbucket vb after in
    let self : of_vbucket vb (m ∷ after) ≡ m ∷ rest = ap (λ b. cond b (m ∷ rest) rest) (eq-eqb vb vb refl) in
    let place : k ≡ length first = omega arith in
    let one : m.seqno - k ≡ 1 = omega arith in
    slice_of-places n (before ++ m ∷ after) vb k m.seqno h
    ∙ ap (λ ys. slice_range ys k m.seqno) (of_vbucket-append vb before (m ∷ after) ∙ ap (λ ys. first ++ ys) self)
    ∙ ap (λ j. take (m.seqno - k) (drop j (first ++ m ∷ rest))) place
    ∙ ap (take (m.seqno - k)) (drop-append_seam first (m ∷ rest))
    ∙ ap (λ j. take j (m ∷ rest)) one

pub documents_at-next : (n : ℕ) (log : List Mutation) (v : List ℕ) (m : Mutation) → IsNumbered n log → Contains log m → m.vb < length v → get_or v m.vb 0 + 1 ≡ m.seqno → documents_at log (set v m.vb m.seqno) ≡ with_mutation (documents_at log v) m
documents_at-next n log v m h has within next =
    let i = has.0 in
    let whole : take i log ++ m ∷ drop (suc i) log ≡ log =
    ap (λ ys. take i log ++ ys) (sym (drop-cons log i m has.1 ∙ ap (λ y. y ∷ drop (suc i) log) has.2)) ∙ take-append-drop i log in
    let one : slice_of log m.vb (get_or v m.vb 0) m.seqno ≡ m ∷ [] =
    subst (λ l. slice_of l m.vb (get_or v m.vb 0) m.seqno ≡ m ∷ []) whole (slice_of-one n (take i log) (drop (suc i) log) m (get_or v m.vb 0) (subst (IsNumbered n) (sym whole) h) next) in
    documents_at-slice n log v m.vb m.seqno h within (omega arith) ∙ ap (with_mutations (documents_at log v)) one

pub documents_at-push : (n : ℕ) (log : List Mutation) (m : Mutation) → IsNumbered n (log ++ m ∷ []) → 0 < n → documents_at (log ++ m ∷ []) (high_of n (log ++ m ∷ [])) ≡ with_mutation (documents_at log (high_of n log)) m
documents_at-push n log m h some =
    documents_at-high n (log ++ m ∷ []) h some ∙ fold-append with_mutation map.empty log (m ∷ [])
    ∙ ap (λ d. with_mutation d m) (sym (documents_at-high n log (numbered_parts n [] log (m ∷ []) h).0 some))

-- the document of an id is the body of its last mutation
last_body : (last : Option Mutation) (ms : List Mutation) (docs : Documents) (id : List ℕ) → map.get docs id ≡ body_of last → map.get (with_mutations docs ms) id ≡ body_of (fold (λ l (m : Mutation). cond (bytes_eq id m.id) (Some m) l) last ms)
last_body last [] docs id e = e
last_body last (m ∷ ms) docs id e =
    last_body (cond (bytes_eq id m.id) (Some m) last) ms (with_mutation docs m) id
    (get-with_mutation docs m id ∙ rw is_eq-slice_cmp (elim (bytes_eq id m.id) as (λ b. cond b m.body (map.get docs id) ≡ body_of (cond b (Some m) last)) [ true ↦ refl | false ↦ e ]))

pub get-documents_at : (log : List Mutation) (v : List ℕ) (id : List ℕ) → map.get (documents_at log v) id ≡ body_of (current_of (filter (reaches v) log) id)
unfolding documents_at
get-documents_at log v id = last_body None (filter (reaches v) log) map.empty id (map.get-empty (slice_cmp nat_cmp) id)

pub get-documents_at-high : (n : ℕ) (log : List Mutation) (id : List ℕ) → IsNumbered n log → 0 < n → map.get (documents_at log (high_of n log)) id ≡ body_of (current_of log id)
get-documents_at-high n log id h some =
    ap (λ d. map.get d id) (documents_at-high n log h some) ∙ last_body None log map.empty id (map.get-empty (slice_cmp nat_cmp) id)

-- nothing stands at the vector of zeros
entry-zeros : (k vb : ℕ) → get_or {A = ℕ} (replicate k 0) vb 0 ≡ 0
entry-zeros k vb = elim (cases_lt vb k) [
  | inl lt ↦ get_or-replicate k vb 0 0 lt
  | inr ge ↦ get_or_past (replicate k 0) vb 0 (omega (arith, length-replicate {A = ℕ} k 0))
]

pub documents_at-zeros : (n k : ℕ) (log : List Mutation) → IsNumbered n log → documents_at log (replicate k 0) ≡ map.empty
unfolding documents_at
documents_at-zeros n k log h = ap (with_mutations map.empty) (none_reached n (replicate k 0) [] log h (λ vb. omega (arith, entry-zeros k vb)))
