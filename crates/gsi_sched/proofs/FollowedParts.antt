-- How a machine is followed, from its parts.
use Rattle.std.proofs.Common.{◌≡◌, ◌≢◌, ℕ, true, false, not, List, length, slice_get, Option, Some, None, Result, Ok, Err, refl, sym, ap, ◌∙◌, subst}
use Rattle.std.specs.Prelude.{OnOk, ⊤}
use Rattle.std.specs.Arc.{arc_value}
use Rattle.std.specs.Option.{option_map_or}
use Rattle.std.specs.FinMap as map
use Rattle.std.proofs.lemmas.Bool.{true≢false}
use Rattle.n1ql_value.specs.declared.state.State.{State as Stage}
use Rattle.n1ql_value.specs.declared.state.State.TheVariants.{Deferred, Building, Online}
use Rattle.index_def.specs.LiveIndexes.{Live, numbered, is_deferred}
use Rattle.stream_merge.specs.Joined.{Joined}
use Rattle.scan_history.specs.declared.script.Script.{Script}
use Rattle.scan_history.specs.Answers.{answers_of}
use Rattle.scan_history.specs.Fold.{State, state_after}
use Rattle.scan_history.specs.Sound.{IsSound}
use Rattle.gsi_hub.specs.Past.{state_of}
use Rattle.gsi_sched.specs.Machine.{Worker, Machine, now_in}
use Rattle.gsi_sched.specs.Running.{IsWorking, IsRunning}
use Rattle.gsi_sched.specs.Slots.{Slot, IsKept, is_working}
use Rattle.gsi_sched.specs.inner.SlotLists.{OnSlot, HasSlots}
use Rattle.gsi_sched.specs.inner.Following.{IsSlotOf, initial_numbers, Keeps, Follows, IsWorkingIn}
use Rattle.gsi_sched.specs.declared.machine.RunningMachine.{RunningMachine}
use Rattle.gsi_sched.proofs.SlotPlaces.{StandsAt, stands_at}

-- ---- what a call answers

pub on_ok_map : {A E : Type 0} (r : Result A E) (P Q : Type 0) → (P → Q) → OnOk r P → OnOk r Q
on_ok_map (Ok x) P Q f h = f h
on_ok_map (Err e) P Q f h = tt

pub on_ok_both : {A E : Type 0} (r : Result A E) (P Q R : Type 0) → (P → Q → R) → OnOk r P → OnOk r Q → OnOk r R
on_ok_both (Ok x) P Q R f one two = f one two
on_ok_both (Err e) P Q R f one two = tt

-- ---- slots

pub on_slot : (P : Slot → Type 0) (o : Option (Option Slot)) (slot : Slot) → o ≡ Some (Some slot) → P slot → OnSlot P o
on_slot P o slot there holds = subst (OnSlot P) (sym there) holds

pub by_slot : (P : Slot → Type 0) (o : Option (Option Slot)) (slot : Slot) → o ≡ Some (Some slot) → OnSlot P o → P slot
by_slot P o slot there on = subst (OnSlot P) there on

-- ---- what works

works_if : (state : Stage) → not (is_deferred state) ≡ true → state ≢ Deferred
works_if state is e = true≢false (sym is ∙ ap (λ x. not (is_deferred x)) e)

test_of_built : (state : Stage) → state ≢ Deferred → not (is_deferred state) ≡ true
test_of_built Deferred built = absurd (built refl)
test_of_built Building built = refl
test_of_built Online built = refl

pub working_from : (s : State) (i : ℕ) → is_working s i ≡ true → IsWorking s.live i
working_from s i is = by (numbered i s.live) refl
  where
    by : (o : Option Live) → numbered i s.live ≡ o → IsWorking s.live i
    by None none = absurd (true≢false (sym is ∙ ap (λ o. option_map_or (λ (index : Live). not (is_deferred index.state)) o false) none))
    by (Some index) found =
        (index, found, works_if index.state (sym (ap (λ o. option_map_or (λ (index : Live). not (is_deferred index.state)) o false) found) ∙ is))

pub is_working_if : (s : State) (i : ℕ) (index : Live) → numbered i s.live ≡ Some index → index.state ≢ Deferred → is_working s i ≡ true
is_working_if s i index found built =
    ap (λ o. option_map_or (λ (x : Live). not (is_deferred x.state)) o false) found ∙ test_of_built index.state built

-- ---- parts that are the same

-- the script, what happened and the answers are
pub record Beside (old new : RunningMachine) : Type 0 where
  pub script : new.script ≡ old.script
  pub hub_script : new.hub.script ≡ old.hub.script
  pub hub_events : new.hub.events ≡ old.hub.events
  pub answers : new.answers ≡ old.answers

-- the hub's state is the machine's
pub same_state : (m : Machine) (r : RunningMachine) → Follows m r → state_of r.hub ≡ now_in r.hub.script.vbuckets m
same_state m r f = ap (state_after r.hub.script.vbuckets) f.events

pub keeps_as : (n : ℕ) (s : State) (m : Machine) (old new : RunningMachine) → new.streams ≡ old.streams → new.slots ≡ old.slots → Keeps n s m old → Keeps n s m new
keeps_as n s m old new streams slots k = record {
  maint = ap (λ (st : Joined). st.maint.stream) streams ∙ k.maint;
  initial = λ i index found building. ap (λ (st : Joined). initial_numbers (map.get st.initial i)) streams ∙ k.initial i index found building;
  slots = λ i index found built. subst (λ (o : Option (Option Slot)). IsSlotOf n s i index (m.worker i) o) (ap (λ xs. slice_get xs.items i) (sym slots)) (k.slots i index found built);
  places = ap (λ xs. length xs.items) slots ∙ k.places;
}

-- another machine with the same events
pub follows_on : (m t : Machine) (old new : RunningMachine) → Beside old new → Follows m old → t.events ≡ m.events → IsRunning old.hub.script t
    → Keeps old.hub.script.vbuckets (now_in old.hub.script.vbuckets t) t new → Follows t new
follows_on m t old new beside f same runs keeps = record {
  sound = subst IsSound (sym beside.hub_script) f.sound;
  script = ap arc_value beside.script ∙ (f.script ∙ sym beside.hub_script);
  runs = subst (λ (script : Script). IsRunning script t) (sym beside.hub_script) runs;
  events = beside.hub_events ∙ (f.events ∙ sym same);
  keeps = subst (λ (script : Script). Keeps script.vbuckets (now_in script.vbuckets t) t new) (sym beside.hub_script) keeps;
  answers =
      beside.answers ∙ (f.answers
      ∙ (ap (λ (script : Script). answers_of script old.hub.events) (sym beside.hub_script) ∙ ap (answers_of new.hub.script) (sym beside.hub_events)));
}

-- the same machine
pub follows_still : (m : Machine) (old new : RunningMachine) → Beside old new → new.streams ≡ old.streams → new.slots ≡ old.slots → Follows m old → Follows m new
follows_still m old new beside streams slots f =
    let n = old.hub.script.vbuckets in
    follows_on m m old new beside f refl f.runs (keeps_as n (now_in n m) m old new streams slots f.keeps)

-- ---- what a step needs of the slots

module _ (m : Machine) (r : RunningMachine) (f : Follows m r) where
  abbrev n : ℕ
  n = r.hub.script.vbuckets

  abbrev s : State
  s = now_in n m

  -- an index of the hub works in the machine
  pub numbered_now : (i : ℕ) (works : IsWorkingIn r i) → numbered i s.live ≡ Some works.0
  numbered_now i works = subst (λ (t : State). numbered i t.live ≡ Some works.0) (same_state m r f) works.1

  pub works_now : (i : ℕ) → IsWorkingIn r i → IsWorking s.live i
  works_now i works = (works.0, numbered_now i works, works.2)

  pub its_slot : (i : ℕ) (works : IsWorkingIn r i) → StandsAt n s i works.0 (m.worker i) (slice_get r.slots.items i)
  its_slot i works =
      stands_at n s i works.0 (m.worker i) (slice_get r.slots.items i) (f.keeps.slots i works.0 (numbered_now i works) works.2)

  pub slot_is_there : (i : ℕ) → IsWorkingIn r i → OnSlot (λ slot. ⊤) (slice_get r.slots.items i)
  slot_is_there i works = let at = its_slot i works in on_slot (λ slot. ⊤) (slice_get r.slots.items i) at.slot at.there tt

  pub slots_are_there : HasSlots (state_of r.hub) r.slots.items
  slots_are_there i index found built = slot_is_there i (index, found, built)

  -- how far the worker of a slot has come
  pub slot_at_worker : (i : ℕ) (index : Live) (slot : Slot) (w : Worker) → IsKept n s.log index.def slot w → slot.worker.taken.at ≡ w.at
  slot_at_worker i index slot w kept = ap (λ (x : Worker). x.at) kept.numbers

  pub slot_sized : (i : ℕ) (works : IsWorkingIn r i) (at : List ℕ) → (its_slot i works).slot.worker.taken.at ≡ at → length at ≡ n
  slot_sized i works at is = subst (λ (v : List ℕ). length v ≡ n) is (its_slot i works).kept.worker.at.size
