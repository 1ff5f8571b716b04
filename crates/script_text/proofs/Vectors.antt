-- Full vectors out of sparse ones, vBucket by vBucket.
use Rattle.std.proofs.Common.{◌≡◌, ℕ, suc, ◌+◌, ◌-◌, ◌<◌, ◌≤◌, List, [], ◌∷◌, ◌++◌, length, set, sym, ap, ap₂, ◌∙◌, arith, append-nil, append_assoc, length-append}
use Rattle.std.specs.Prelude.{decimal}
use Rattle.std.proofs.Math.Seq.{set-append_seam}
use Rattle.std.proofs.lemmas.List.{length-replicate}
use Rattle.std.proofs.lemmas.List.FromFn.{length-map-range_with_len, map-range_with_len_more}
use Rattle.seq_vector.specs.Vectors.{zeros}
use Rattle.script_text.specs.Members.{Members, count_at}
use Rattle.script_text.specs.SparseVectors.{vector_of}

-- the entries of the first k vBuckets, and zeros for the others of n
abbrev pub filled : ℕ → ℕ → Members → List ℕ
filled n k entries = vector_of k entries ++ zeros (n - k)

pub filled-none : (n : ℕ) (entries : Members) (v : List ℕ) → v ≡ zeros n → v ≡ filled n 0 entries
filled-none n entries v e = let all : n - 0 ≡ n = omega arith in e ∙ ap zeros (sym all)

pub filled-more : (n k : ℕ) (entries : Members) (v new : List ℕ) (x : ℕ) → k < n → v ≡ filled n k entries → x ≡ count_at (decimal k) 0 entries
    → new ≡ set v k x → new ≡ filled n (k + 1) entries
filled-more n k entries v new x h is at put =
    let left : n - k ≡ suc (n - (k + 1)) = omega arith in
    let long : length (vector_of k entries) ≡ k = length-map-range_with_len (λ vb. count_at (decimal vb) 0 entries) 0 k in
    let others = zeros (n - (k + 1)) in
    put ∙ (ap₂ (λ (w : List ℕ) (y : ℕ). set w k y) (is ∙ ap (λ m. vector_of k entries ++ zeros m) left) at
    ∙ (ap (λ i. set (vector_of k entries ++ 0 ∷ others) i (count_at (decimal k) 0 entries)) (sym long)
    ∙ (set-append_seam (vector_of k entries) 0 others (count_at (decimal k) 0 entries)
    ∙ (sym (append_assoc (vector_of k entries) (count_at (decimal k) 0 entries ∷ []) others)
    ∙ ap (λ (w : List ℕ). w ++ others) (sym (map-range_with_len_more (λ vb. count_at (decimal vb) 0 entries) 0 k k (omega arith)))))))

pub filled-all : (n k : ℕ) (entries : Members) (v : List ℕ) → n ≡ k → v ≡ filled n k entries → v ≡ vector_of n entries
filled-all n k entries v e is =
    let none : n - k ≡ 0 = omega (arith, e) in
    is ∙ (ap (λ m. vector_of k entries ++ zeros m) none ∙ (append-nil (vector_of k entries) ∙ ap (λ m. vector_of m entries) (sym e)))

-- it has an entry for each vBucket
pub vector_of-length : (n : ℕ) (entries : Members) → length (vector_of n entries) ≡ n
vector_of-length n entries = length-map-range_with_len (λ vb. count_at (decimal vb) 0 entries) 0 n

pub filled-length : (n k : ℕ) (entries : Members) (v : List ℕ) → k ≤ n → v ≡ filled n k entries → length v ≡ n
filled-length n k entries v h is =
    let first = vector_of-length k entries in
    let others : length (zeros (n - k)) ≡ n - k = length-replicate (n - k) 0 in
    ap length is ∙ (length-append (vector_of k entries) (zeros (n - k)) ∙ omega (arith, first, others))
