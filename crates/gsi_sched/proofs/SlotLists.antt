-- Lists of slots: one slot is changed, or a piece is sent to several.
use Rattle.std.proofs.Common.{◌≡◌, ◌≢◌, ℕ, zero, suc, ◌+◌, ◌<◌, Bool, true, false, cond, ◌==◌, List, [], ◌∷◌, ◌++◌, length, map, set, slice_get, Option, Some, None, option_map, refl, sym, ap, ◌∙◌, subst, inl, inr, arith, length-set}
use mathlib.Core.Path.{fun_ext}
use Rattle.std.specs.Prelude.{⊤}
use Rattle.std.specs.Option.{option_map_or}
use Rattle.std.proofs.lemmas.Bool.{cases_eq, cond_both, cond-true, cond-false}
use Rattle.std.proofs.lemmas.Bool.Decides.{nat_tests}
use Rattle.std.proofs.lemmas.List.{set-set}
use Rattle.std.proofs.lemmas.List.Sums.{fold-append}
use Rattle.std.proofs.lemmas.Option.{same_Some, slice_get_within}
use Rattle.index_def.specs.LiveIndexes.{Live, AreNumbered, numbered}
use Rattle.dcp_stream.specs.declared.piece.Piece.{Piece}
use Rattle.key_eval.specs.declared.projected.Projected.{Projected}
use Rattle.index_snapshot.specs.Workers.{Worker as RowWorker, delivered}
use Rattle.scan_history.specs.First.{is_online}
use Rattle.gsi_sched.specs.Slots.{Slot, with_piece}
use Rattle.gsi_sched.specs.inner.SlotLists.{with_slot, OnSlot, with_sent, given_to_worker, all_given, projected_as, online_in, sent_online}
use Rattle.gsi_sched.proofs.LiveIndexes.{is_it}

-- ---- a list that is written at one place

set_there : {A : Type 0} (xs : List A) (i : ℕ) (y : A) → i < length xs → slice_get (set xs i y) i ≡ Some y
set_there [] i y within = absurd (omega arith)
set_there (x ∷ xs) zero y within = refl
set_there (x ∷ xs) (suc i) y within = set_there xs i y (omega arith)

set_elsewhere : {A : Type 0} (xs : List A) (i j : ℕ) (y : A) → j ≢ i → slice_get (set xs i y) j ≡ slice_get xs j
set_elsewhere [] i j y other = refl
set_elsewhere (x ∷ xs) zero zero y other = absurd (other refl)
set_elsewhere (x ∷ xs) zero (suc j) y other = refl
set_elsewhere (x ∷ xs) (suc i) zero y other = refl
set_elsewhere (x ∷ xs) (suc i) (suc j) y other = set_elsewhere xs i j y (λ same. other (ap suc same))

-- ---- one slot is changed

-- what with_slot makes of the slot that was found
abbrev written : (Slot → Slot) → ℕ → List (Option Slot) → Option (Option Slot) → List (Option Slot)
written change i slots found = option_map_or (λ (slot : Option Slot). set slots i (option_map change slot)) found slots

pub changed_there : (change : Slot → Slot) (i : ℕ) (slots : List (Option Slot)) → slice_get (with_slot change i slots) i ≡ option_map (option_map change) (slice_get slots i)
changed_there change i slots = by (slice_get slots i) refl
  where
    by : (o : Option (Option Slot)) → slice_get slots i ≡ o → slice_get (written change i slots o) i ≡ option_map (option_map change) o
    by None none = none
    by (Some slot) there = set_there slots i (option_map change slot) (slice_get_within slots i slot there)

pub changed_elsewhere : (change : Slot → Slot) (i j : ℕ) (slots : List (Option Slot)) → j ≢ i → slice_get (with_slot change i slots) j ≡ slice_get slots j
changed_elsewhere change i j slots other = by (slice_get slots i)
  where
    by : (o : Option (Option Slot)) → slice_get (written change i slots o) j ≡ slice_get slots j
    by None = refl
    by (Some slot) = set_elsewhere slots i j (option_map change slot) other

pub changed_length : (change : Slot → Slot) (i : ℕ) (slots : List (Option Slot)) → length (with_slot change i slots) ≡ length slots
changed_length change i slots = by (slice_get slots i)
  where
    by : (o : Option (Option Slot)) → length (written change i slots o) ≡ length slots
    by None = refl
    by (Some slot) = length-set slots i (option_map change slot)

-- one change after another
mapped_twice : (f g : Slot → Slot) (slot : Option Slot) → option_map f (option_map g slot) ≡ option_map (λ s. f (g s)) slot
mapped_twice f g None = refl
mapped_twice f g (Some slot) = refl

changed_twice : (f g : Slot → Slot) (i : ℕ) (slots : List (Option Slot)) → with_slot f i (with_slot g i slots) ≡ with_slot (λ s. f (g s)) i slots
changed_twice f g i slots = by (slice_get slots i) refl
  where
    by : (o : Option (Option Slot)) → slice_get slots i ≡ o → with_slot f i (written g i slots o) ≡ written (λ s. f (g s)) i slots o
    by None none = ap (written f i slots) none
    by (Some slot) there =
        let now : List (Option Slot) = set slots i (option_map g slot) in
        ap (written f i now) (set_there slots i (option_map g slot) (slice_get_within slots i slot there))
        ∙ set-set slots i (option_map g slot) (option_map f (option_map g slot))
        ∙ ap (set slots i) (mapped_twice f g slot)

-- a change that leaves each slot as it is
unchanged : (slots : List (Option Slot)) (i : ℕ) → with_slot (λ s. s) i slots ≡ slots
unchanged [] i = refl
unchanged (x ∷ slots) zero = ap (λ (y : Option Slot). y ∷ slots) (same x)
  where
    same : (x : Option Slot) → option_map (λ (s : Slot). s) x ≡ x
    same None = refl
    same (Some s) = refl
unchanged (x ∷ slots) (suc i) = by (slice_get slots i) ∙ ap (λ (rest : List (Option Slot)). x ∷ rest) (unchanged slots i)
  where
    by : (o : Option (Option Slot)) → written (λ s. s) (suc i) (x ∷ slots) o ≡ x ∷ written (λ s. s) i slots o
    by None = refl
    by (Some slot) = refl

-- a slot that is there
pub there_still : (change : Slot → Slot) (i j : ℕ) (slots : List (Option Slot)) → OnSlot (λ slot. ⊤) (slice_get slots j) → OnSlot (λ slot. ⊤) (slice_get (with_slot change i slots) j)
there_still change i j slots there = elim (cases_eq j i) [
  | inl same ↦
      subst (λ k. OnSlot (λ slot. ⊤) (slice_get (with_slot change i slots) k)) (sym same)
      (subst (OnSlot (λ slot. ⊤)) (sym (changed_there change i slots)) (by (slice_get slots i) (subst (λ k. OnSlot (λ slot. ⊤) (slice_get slots k)) same there)))
  | inr other ↦ subst (OnSlot (λ slot. ⊤)) (sym (changed_elsewhere change i j slots other)) there
]
  where
    by : (o : Option (Option Slot)) → OnSlot (λ slot. ⊤) o → OnSlot (λ slot. ⊤) (option_map (option_map change) o)
    by None is = is
    by (Some None) is = is
    by (Some (Some slot)) is = tt

-- what holds of a slot that is there, holds of it once it is changed
pub on_changed : (change : Slot → Slot) (i : ℕ) (slots : List (Option Slot)) (P Q : Slot → Type 0) → ((slot : Slot) → P slot → Q (change slot))
    → OnSlot P (slice_get slots i) → OnSlot Q (slice_get (with_slot change i slots) i)
on_changed change i slots P Q then on = subst (OnSlot Q) (sym (changed_there change i slots)) (by (slice_get slots i) on)
  where
    by : (o : Option (Option Slot)) → OnSlot P o → OnSlot Q (option_map (option_map change) o)
    by None is = is
    by (Some None) is = is
    by (Some (Some slot)) is = then slot is

-- ---- pieces are given to a worker, one after another

pub given_next : (ps : List Projected) (p : Projected) (i : ℕ) (slots : List (Option Slot))
    → with_slot (given_to_worker p) i (with_slot (all_given ps) i slots) ≡ with_slot (all_given (ps ++ p ∷ [])) i slots
given_next ps p i slots =
    changed_twice (given_to_worker p) (all_given ps) i slots
    ∙ ap (λ (change : Slot → Slot). with_slot change i slots) (fun_ext (λ s. ap (λ (w : RowWorker). let t : Slot = record s { worker = w } in t)
    (sym (fold-append (λ (w : RowWorker) (p : Projected). delivered p w) s.worker ps (p ∷ [])))))

pub given_none : (i : ℕ) (slots : List (Option Slot)) → with_slot (all_given []) i slots ≡ slots
given_none i slots = unchanged slots i

-- ---- pieces are sent to the slots of their indexes

pub sent_next : (ps : List Projected) (p : Projected) (slots : List (Option Slot)) → with_slot (with_piece p) p.index (with_sent ps slots) ≡ with_sent (ps ++ p ∷ []) slots
sent_next ps p slots = sym (fold-append (λ (slots : List (Option Slot)) (p : Projected). with_slot (with_piece p) p.index slots) slots ps (p ∷ []))

pub sent_length : (ps : List Projected) (slots : List (Option Slot)) → length (with_sent ps slots) ≡ length slots
sent_length [] slots = refl
sent_length (p ∷ ps) slots = sent_length ps (with_slot (with_piece p) p.index slots) ∙ changed_length (with_piece p) p.index slots

-- what one that is first among the live indexes adds
abbrev sent_first : Live → Piece → List (Option Slot) → List (Option Slot)
sent_first x p slots = with_slot (with_piece (projected_as x.number x.def p)) x.number slots

sent_where : (x : Live) (live : List Live) (p : Piece) (slots : List (Option Slot))
    → sent_online (x ∷ live) p slots ≡ sent_online live p (cond (is_online x.state) (sent_first x p slots) slots)
sent_where x live p slots = by (is_online x.state)
  where
    by : (b : Bool) → with_sent (map (λ (index : Live). projected_as index.number index.def p) (cond b (x ∷ online_in live) (online_in live))) slots
        ≡ sent_online live p (cond b (sent_first x p slots) slots)
    by true = refl
    by false = refl

-- the slots of lower numbers stay
sent_above : (i least made : ℕ) (live : List Live) (p : Piece) (slots : List (Option Slot)) → AreNumbered least made live → i < least
    → slice_get (sent_online live p slots) i ≡ slice_get slots i
sent_above i least made [] p slots numbers below = refl
sent_above i least made (x ∷ live) p slots numbers below =
    ap (λ (l : List (Option Slot)). slice_get l i) (sent_where x live p slots)
    ∙ (sent_above i (x.number + 1) made live p (cond (is_online x.state) (sent_first x p slots) slots) numbers.1 (omega (arith, below, numbers.0))
    ∙ cond_both (is_online x.state) (sent_first x p slots) slots (λ l. slice_get l i ≡ slice_get slots i)
    (λ online. changed_elsewhere (with_piece (projected_as x.number x.def p)) x.number i slots (λ same. absurd (omega (arith, same, below, numbers.0))))
    (λ other. refl))

-- the piece is sent to an index where it is online
abbrev pub sent_if : Bool → Projected → Option (Option Slot) → Option (Option Slot)
sent_if online p slot = cond online (option_map (option_map (with_piece p)) slot) slot

-- those behind it change nothing at the first one's number
sent_at_first : (i made : ℕ) (x : Live) (live : List Live) (p : Piece) (slots : List (Option Slot)) → AreNumbered (x.number + 1) made live → x.number ≡ i
    → slice_get (sent_online (x ∷ live) p slots) i ≡ sent_if (is_online x.state) (projected_as i x.def p) (slice_get slots i)
sent_at_first i made x live p slots numbers is =
    let first = sent_first x p slots in
    ap (λ (l : List (Option Slot)). slice_get l i) (sent_where x live p slots)
    ∙ (sent_above i (x.number + 1) made live p (cond (is_online x.state) first slots) numbers (omega (arith, is))
    ∙ cond_both (is_online x.state) first slots (λ l. slice_get l i ≡ sent_if (is_online x.state) (projected_as i x.def p) (slice_get slots i))
    (λ online.
    subst (λ k. slice_get (with_slot (with_piece (projected_as k x.def p)) k slots) i ≡ sent_if (is_online x.state) (projected_as i x.def p) (slice_get slots i)) (sym is)
    (changed_there (with_piece (projected_as i x.def p)) i slots
    ∙ sym (cond-true (is_online x.state) (option_map (option_map (with_piece (projected_as i x.def p))) (slice_get slots i)) (slice_get slots i) online)))
    (λ other. sym (cond-false (is_online x.state) (option_map (option_map (with_piece (projected_as i x.def p))) (slice_get slots i)) (slice_get slots i) other)))

-- the first one changes nothing at another number
first_elsewhere : (i : ℕ) (x : Live) (p : Piece) (slots : List (Option Slot)) → (x.number == i) ≡ false → slice_get (cond (is_online x.state) (sent_first x p slots) slots) i ≡ slice_get slots i
first_elsewhere i x p slots apart =
    cond_both (is_online x.state) (sent_first x p slots) slots (λ l. slice_get l i ≡ slice_get slots i)
    (λ online. changed_elsewhere (with_piece (projected_as x.number x.def p)) x.number i slots (not_it i x apart)) (λ other. refl)
  where
    not_it : (i : ℕ) (x : Live) → (x.number == i) ≡ false → i ≢ x.number
    not_it i x apart is = absurd (grind (arith, nat_tests, apart, is))

pub sent_to_each : (i least made : ℕ) (live : List Live) (index : Live) (p : Piece) (slots : List (Option Slot)) → AreNumbered least made live → numbered i live ≡ Some index
    → slice_get (sent_online live p slots) i ≡ sent_if (is_online index.state) (projected_as i index.def p) (slice_get slots i)
sent_to_each i least made [] index p slots numbers found = absurd cc
sent_to_each i least made (x ∷ live) index p slots numbers found =
    let Goal : Type 0 = slice_get (sent_online (x ∷ live) p slots) i ≡ sent_if (is_online index.state) (projected_as i index.def p) (slice_get slots i) in
    let by : (b : Bool) → (x.number == i) ≡ b → Goal = λ b. elim b as (λ b. (x.number == i) ≡ b → Goal) [
      | true ↦ λ own.
          let it : x ≡ index = same_Some x index (sym (cond-true (x.number == i) (Some x) (numbered i live) own) ∙ found) in
          sent_at_first i made x live p slots numbers.1 (is_it x.number i own) ∙ ap (λ (y : Live). sent_if (is_online y.state) (projected_as i y.def p) (slice_get slots i)) it
      | false ↦ λ apart.
          ap (λ (l : List (Option Slot)). slice_get l i) (sent_where x live p slots)
          ∙ (sent_to_each i (x.number + 1) made live index p (cond (is_online x.state) (sent_first x p slots) slots) numbers.1
          (sym (cond-false (x.number == i) (Some x) (numbered i live) apart) ∙ found)
          ∙ ap (sent_if (is_online index.state) (projected_as i index.def p)) (first_elsewhere i x p slots apart))
    ] in
    by (x.number == i) refl
