-- The slots of indexes at their numbers, and what a change of one leaves.
use Rattle.std.proofs.Common.{◌≡◌, ◌≢◌, ℕ, zero, suc, ◌<◌, List, [], ◌∷◌, length, set, slice_get, Option, Some, None, option_map, refl, sym, ap, ◌∙◌, subst, inl, inr, arith, length-set}
use Rattle.std.specs.Prelude.{slice_set}
use Rattle.std.specs.Option.{option_map_or}
use Rattle.std.proofs.lemmas.Bool.{cases_eq}
use Rattle.std.proofs.lemmas.Option.{slice_get_within}
use Rattle.n1ql_value.specs.declared.state.State.TheVariants.{Deferred}
use Rattle.index_def.specs.LiveIndexes.{Live, numbered}
use Rattle.scan_history.specs.Fold.{State}
use Rattle.gsi_sched.specs.Machine.{Worker}
use Rattle.gsi_sched.specs.Slots.{Slot, IsKept}
use Rattle.gsi_sched.specs.inner.SlotLists.{with_slot}
use Rattle.gsi_sched.specs.inner.Following.{IsSlotOf}
use Rattle.gsi_sched.proofs.FirstEvents.{by_option}

-- ---- lists

pub get_set_same : {A : Type 0} (xs : List A) (i : ℕ) (a : A) → i < length xs → slice_get (set xs i a) i ≡ Some a
get_set_same [] i a low = absurd (omega (arith, low))
get_set_same (x ∷ xs) zero a low = refl
get_set_same (x ∷ xs) (suc i) a low = get_set_same xs i a (omega (arith, low))

pub get_set_other : {A : Type 0} (xs : List A) (i j : ℕ) (a : A) → j ≢ i → slice_get (set xs i a) j ≡ slice_get xs j
get_set_other [] zero j a other = refl
get_set_other [] (suc i) j a other = refl
get_set_other (x ∷ xs) zero zero a other = absurd (other refl)
get_set_other (x ∷ xs) zero (suc j) a other = refl
get_set_other (x ∷ xs) (suc i) zero a other = refl
get_set_other (x ∷ xs) (suc i) (suc j) a other = get_set_other xs i j a (λ e. other (ap suc e))

-- ---- a slot that changed

module _ (change : Slot → Slot) (slots : List (Option Slot)) (i : ℕ) where
  pub with_slot_at : (slot : Slot) → slice_get slots i ≡ Some (Some slot) → slice_get (with_slot change i slots) i ≡ Some (Some (change slot))
  with_slot_at slot there =
      ap (λ o. slice_get (option_map_or (λ (x : Option Slot). slice_set slots i (option_map change x)) o slots) i) there
      ∙ get_set_same slots i (Some (change slot)) (slice_get_within slots i (Some slot) there)

  pub with_slot_other : (j : ℕ) → j ≢ i → slice_get (with_slot change i slots) j ≡ slice_get slots j
  with_slot_other j other =
      by_option (λ xs. slice_get xs j ≡ slice_get slots j) (λ (x : Option Slot). slice_set slots i (option_map change x)) slots (slice_get slots i)
      (λ x there. get_set_other slots i j (option_map change x) other) (λ none. refl)

  pub with_slot_length : length (with_slot change i slots) ≡ length slots
  with_slot_length =
      by_option (λ xs. length xs ≡ length slots) (λ (x : Option Slot). slice_set slots i (option_map change x)) slots (slice_get slots i)
      (λ x there. length-set slots i (option_map change x)) (λ none. refl)

-- ---- the slots of building and online indexes

-- the slot that stands at a number
pub record StandsAt (n : ℕ) (s : State) (i : ℕ) (index : Live) (w : Worker) (o : Option (Option Slot)) : Type 0 where
  pub slot : Slot
  pub there : o ≡ Some (Some slot)
  pub kept : IsKept n s.log index.def slot w
  pub own : slot.worker.index ≡ i

module _ (n : ℕ) (s : State) where
  pub stands_at : (i : ℕ) (index : Live) (w : Worker) (o : Option (Option Slot)) → IsSlotOf n s i index w o → StandsAt n s i index w o
  stands_at i index w (Some (Some slot)) is = record { slot = slot; there = refl; kept = is.0; own = is.1 }
  stands_at i index w (Some None) is = absurd is
  stands_at i index w None is = absurd is

  pub slot_of : (i : ℕ) (index : Live) (w : Worker) (o : Option (Option Slot)) (slot : Slot) → o ≡ Some (Some slot)
      → IsKept n s.log index.def slot w → slot.worker.index ≡ i → IsSlotOf n s i index w o
  slot_of i index w o slot there kept own = subst (λ o. IsSlotOf n s i index w o) (sym there) (kept, own)

  -- each building or online index has its slot, where the workers are these
  abbrev pub AreSlotted : (ℕ → Worker) → List (Option Slot) → Type 0
  AreSlotted workers slots = (i : ℕ) (index : Live) → numbered i s.live ≡ Some index → index.state ≢ Deferred → IsSlotOf n s i index (workers i) (slice_get slots i)

  pub slots_changed : (change : Slot → Slot) (i : ℕ) (f g : ℕ → Worker) (slots : List (Option Slot)) → ((j : ℕ) → j ≢ i → g j ≡ f j)
      → ((slot : Slot) (index : Live) → numbered i s.live ≡ Some index → IsKept n s.log index.def slot (f i) → IsKept n s.log index.def (change slot) (g i))
      → ((slot : Slot) → (change slot).worker.index ≡ slot.worker.index) → AreSlotted f slots → AreSlotted g (with_slot change i slots)
  slots_changed change i f g slots same kept own are j index found built =
      elim (cases_eq j i) [
        | inl here ↦
            let mine : numbered i s.live ≡ Some index = subst (λ k. numbered k s.live ≡ Some index) here found in
            let at = stands_at i index (f i) (slice_get slots i) (are i index mine built) in
            subst (λ k. IsSlotOf n s k index (g k) (slice_get (with_slot change i slots) k)) (sym here)
            (slot_of i index (g i) (slice_get (with_slot change i slots) i) (change at.slot) (with_slot_at change slots i at.slot at.there)
            (kept at.slot index mine at.kept) (own at.slot ∙ at.own))
        | inr other ↦
            subst (λ w. IsSlotOf n s j index w (slice_get (with_slot change i slots) j)) (sym (same j other))
            (subst (λ o. IsSlotOf n s j index (f j) o) (sym (with_slot_other change slots i j other)) (are j index found built))
      ]
