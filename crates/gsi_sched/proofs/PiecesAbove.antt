-- The pieces of all that was accepted above a worker's vector bring the worker up to the newest numbers.
use Rattle.std.proofs.Common.{◌≡◌, ℕ, zero, suc, ◌+◌, ◌<◌, ◌≤◌, Bool, true, false, cond, nat_lt, ◌==◌, List, [], ◌∷◌, ◌++◌, map, length, refl, sym, ap, ◌∙◌, subst, inl, inr, arith}
use Rattle.std.specs.List.{AllByRecursion, list_any, flat_map, range_with_len}
use Rattle.std.proofs.lemmas.Bool.{cases_eq, cond_both, or_cases, or_left, or_right, true≢false}
use Rattle.std.proofs.lemmas.Bool.Decides.{nat_tests}
use Rattle.seq_vector.specs.Vectors.{entry}
use Rattle.vb_store.specs.declared.mutation.Mutation.{Mutation}
use Rattle.vb_store.specs.Mutations.{high_of}
use Rattle.index_def.specs.declared.definition.IndexDef.{IndexDef}
use Rattle.dcp_stream.specs.declared.piece.Piece.{Piece}
use Rattle.dcp_stream.specs.Pieces.{PieceStands}
use Rattle.key_eval.specs.declared.projected.Projected.{Projected}
use Rattle.key_eval.specs.Stands.{ProjectedStands}
use Rattle.key_eval.specs.Versions.{version_of}
use Rattle.index_snapshot.specs.Workers.{Worker as RowWorker, applied, offered, delivered}
use Rattle.stability.specs.declared.offer.Offer.{Offer}
use Rattle.stability.specs.declared.offer.Offer.TheVariants.{Next, Repeat, Gap}
use Rattle.gsi_hub.specs.Pieces.{piece_between, piece_above, pieces_above}
use Rattle.gsi_sched.specs.Slots.{Slot, after_deliveries, BringUp}
use Rattle.gsi_sched.specs.inner.SlotLists.{IsPieceFor, projected_as}

-- ---- lists

module _ {A : Type 0} (P : A → Type 0) where
  each_of_both : (xs ys : List A) → AllByRecursion P xs → AllByRecursion P ys → AllByRecursion P (xs ++ ys)
  each_of_both [] ys one two = two
  each_of_both (x ∷ xs) ys one two = (one.0, each_of_both xs ys one.1 two)

pub each_mapped : {A B : Type 0} (f : A → B) (P : A → Type 0) (Q : B → Type 0) → ((x : A) → P x → Q (f x)) → (xs : List A) → AllByRecursion P xs → AllByRecursion Q (map f xs)
each_mapped f P Q then [] all = tt
each_mapped f P Q then (x ∷ xs) all = (then x all.0, each_mapped f P Q then xs all.1)

some_left : {A : Type 0} (p : A → Bool) (xs ys : List A) → list_any p xs ≡ true → list_any p (xs ++ ys) ≡ true
some_left p [] ys has = absurd (true≢false (sym has))
some_left p (x ∷ xs) ys has = elim (or_cases (p x) (list_any p xs) has) [
  | inl here ↦ or_left (p x) (list_any p (xs ++ ys)) here
  | inr there ↦ or_right (p x) (list_any p (xs ++ ys)) (some_left p xs ys there)
]

some_right : {A : Type 0} (p : A → Bool) (xs ys : List A) → list_any p ys ≡ true → list_any p (xs ++ ys) ≡ true
some_right p [] ys has = has
some_right p (x ∷ xs) ys has = or_right (p x) (list_any p (xs ++ ys)) (some_right p xs ys has)

some_mapped : {A B : Type 0} (f : A → B) (p : B → Bool) (xs : List A) → list_any (λ x. p (f x)) xs ≡ true → list_any p (map f xs) ≡ true
some_mapped f p [] has = has
some_mapped f p (x ∷ xs) has = elim (or_cases (p (f x)) (list_any (λ x. p (f x)) xs) has) [
  | inl here ↦ or_left (p (f x)) (list_any p (map f xs)) here
  | inr there ↦ or_right (p (f x)) (list_any p (map f xs)) (some_mapped f p xs there)
]

-- ---- the number of a worker's index stays

applied_index : (p : Projected) (o : Offer) (w : RowWorker) → (applied p o w).index ≡ w.index
applied_index p (Next after) w = refl
applied_index p Repeat w = refl
applied_index p (Gap have from) w = refl

pub deliveries_index : (ps : List Projected) (w : RowWorker) → (after_deliveries ps w).index ≡ w.index
deliveries_index [] w = refl
deliveries_index (p ∷ ps) w = deliveries_index ps (delivered p w) ∙ applied_index p (offered p w) w

-- ---- pieces of each vBucket

module _ (n : ℕ) (log : List Mutation) (after : List ℕ) where
  abbrev high : List ℕ
  high = high_of n log

  abbrev above : ℕ → List Piece
  above = piece_above log high after

  -- what holds of each piece
  module _ (P : Piece → Type 0) (holds : (vb : ℕ) → vb < n → P (piece_between log vb (entry after vb) (entry high vb))) where
    each_of_one : (vb : ℕ) → vb < n → AllByRecursion P (above vb)
    each_of_one vb low =
        cond_both (nat_lt (entry after vb) (entry high vb)) (piece_between log vb (entry after vb) (entry high vb) ∷ []) [] (AllByRecursion P)
        (λ newer. (holds vb low, tt)) (λ none. tt)

    each_from : (k a : ℕ) → a + k ≤ n → AllByRecursion P (flat_map above (range_with_len a k))
    each_from zero a le = tt
    each_from (suc k) a le =
        each_of_both P (above a) (flat_map above (range_with_len (a + 1) k)) (each_of_one a (omega (arith, le))) (each_from k (a + 1) (omega (arith, le)))

    each_above : AllByRecursion P (pieces_above n log after)
    each_above = each_from n 0 (omega arith)

  -- there is one of a vBucket with newer numbers
  abbrev is_of_vb : ℕ → Piece → Bool
  is_of_vb vb p = p.vb == vb

  has_its_own : (vb : ℕ) → entry after vb < entry high vb → list_any (is_of_vb vb) (above vb) ≡ true
  has_its_own vb newer =
      let is : nat_lt (entry after vb) (entry high vb) ≡ true = grind (arith, nat_tests, newer) in
      let own : (vb == vb) ≡ true = grind (arith, nat_tests) in
      ap (λ b. list_any (is_of_vb vb) (cond b (piece_between log vb (entry after vb) (entry high vb) ∷ []) [])) is
      ∙ or_left (vb == vb) false own

  has_from : (k a vb : ℕ) → a ≤ vb → vb < a + k → entry after vb < entry high vb → list_any (is_of_vb vb) (flat_map above (range_with_len a k)) ≡ true
  has_from zero a vb le low newer = absurd (omega (arith, le, low))
  has_from (suc k) a vb le low newer = elim (cases_eq vb a) [
    | inl here ↦
        some_left (is_of_vb vb) (above a) (flat_map above (range_with_len (a + 1) k))
        (subst (λ j. list_any (is_of_vb vb) (above j) ≡ true) here (has_its_own vb newer))
    | inr other ↦
        some_right (is_of_vb vb) (above a) (flat_map above (range_with_len (a + 1) k))
        (has_from k (a + 1) vb (omega (arith, le, other)) (omega (arith, low)) newer)
  ]

-- a piece that stands, as it is projected for an index
pub projection_stands : (n : ℕ) (log : List Mutation) (i : ℕ) (def : IndexDef) (p : Piece) → PieceStands n log p → ProjectedStands n def log (projected_as i def p)
projection_stands n log i def p stands = record {
  numbered = stands.numbered;
  vbucket = stands.vbucket;
  begins = let first = stands.first in let begins = stands.begins in omega (arith, first, begins);
  some = stands.some;
  last = stands.last;
  reached = stands.reached;
  holds = ap (map (version_of def)) stands.holds;
}

module _ (n : ℕ) (log : List Mutation) (w : RowWorker) (stand : AllByRecursion (PieceStands n log) (pieces_above n log w.taken.at)) (i : ℕ) where
  abbrev pub projections : List Projected
  projections = map (projected_as i w.def) (pieces_above n log w.taken.at)

  pub above_brings_up : BringUp n log w projections
  above_brings_up =
      let at = w.taken.at in
      let ps = pieces_above n log at in
      let f : Piece → Projected = projected_as i w.def in
      record {
        stand = each_mapped f (PieceStands n log) (ProjectedStands n w.def log) (projection_stands n log i w.def) ps stand;
        go_on = each_mapped f (λ (p : Piece). p.from ≤ entry at p.vb + 1) (λ (p : Projected). p.from ≤ entry at p.vb + 1) (λ p is. is) ps
            (each_above n log at (λ (p : Piece). p.from ≤ entry at p.vb + 1) (λ vb low. omega arith));
        whole = each_mapped f (λ (p : Piece). p.to ≡ entry (high_of n log) p.vb) (λ (p : Projected). p.to ≡ entry (high_of n log) p.vb) (λ p is. is) ps
            (each_above n log at (λ (p : Piece). p.to ≡ entry (high_of n log) p.vb) (λ vb low. refl));
        each = λ vb low newer. some_mapped f (λ (p : Projected). p.vb == vb) ps (has_from n log at n 0 vb (omega arith) (omega (arith, low)) newer);
      }

-- pieces that stand fit a slot whose vector has an entry for each vBucket
pub pieces_fit : (n : ℕ) (log : List Mutation) (s : Slot) (ps : List Piece) → length s.worker.taken.at ≡ n → AllByRecursion (PieceStands n log) ps → AllByRecursion (IsPieceFor s) ps
pieces_fit n log s [] size all = tt
pieces_fit n log s (p ∷ ps) size all =
    let there = all.0.vbucket in
    (record { vbucket = omega (arith, there, size); some = all.0.some; last = all.0.last }, pieces_fit n log s ps size all.1)
