-- What the code keeps, where little of it or of the state changes, and the steps of the code one after another.
use Rattle.std.proofs.Common.{◌≡◌, ℕ, List, [], ◌∷◌, ◌++◌, slice_get, Option, Some, None, refl, sym, ap, ◌∙◌, subst}
use Rattle.vb_store.specs.declared.mutation.Mutation.{Mutation}
use Rattle.index_def.specs.LiveIndexes.{Live, numbered}
use Rattle.scan_history.specs.declared.done.Answered.{Answered}
use Rattle.scan_history.specs.declared.script.Script.{Script}
use Rattle.scan_history.specs.Answers.{answers_of}
use Rattle.scan_history.specs.Events.{Event}
use Rattle.scan_history.specs.Fold.{State, step, log_step, live_step, state_after}
use Rattle.scan_history.specs.Readings.{Read, AreRead}
use Rattle.gsi_hub.specs.Past.{Past, state_of, IsAsBefore, Adds}
use Rattle.gsi_sched.specs.Machine.{Worker, Machine, now_in, with_event}
use Rattle.gsi_sched.specs.Running.{IsRunning}
use Rattle.gsi_sched.specs.Slots.{Slot, IsKept}
use Rattle.gsi_sched.specs.declared.machine.RunningMachine.{RunningMachine}
use Rattle.gsi_sched.specs.inner.ClientTurns.{IsStill}
use Rattle.gsi_sched.specs.inner.Following.{IsSlotOf, Keeps, Follows, IsFollowing, Goes, GoesReading}

-- ---- the hub alone changes

-- a hub by its script, its events and its room
abbrev pub past_of : Script → List Event → ℕ → Past
past_of script events spare = record { script = script; events = events; spare = spare }

-- what holds of a hub with the same script and these events
pub same_past : (P : Past → Type 0) (script : Script) (events : List Event) (p : Past) → p.script ≡ script → p.events ≡ events → P (past_of script events p.spare) → P p
same_past P script events p script_same events_same holds =
    subst (λ s. P (past_of s p.events p.spare)) (sym script_same)
    (subst (λ es. P (past_of script es p.spare)) (sym events_same) holds)

-- what holds of the script and the events of a hub, holds where nothing happened
pub carried : (old new : Past) → IsAsBefore old new → (P : Script → List Event → Type 0) → P old.script old.events → P new.script new.events
carried old new same P holds =
    subst (λ s. P s new.events) (sym same.script) (subst (λ es. P old.script es) (sym same.events) holds)

pub carried_back : (old new : Past) → IsAsBefore old new → (P : Script → List Event → Type 0) → P new.script new.events → P old.script old.events
carried_back old new same P holds =
    subst (λ s. P s old.events) same.script (subst (λ es. P new.script es) same.events holds)

pub still_followed : (m : Machine) (r : RunningMachine) (hub : Past) → IsAsBefore r.hub hub → Follows m r → Follows m (record r { hub = hub })
still_followed m r hub same f =
    same_past (λ p. Follows m (record r { hub = p })) r.hub.script r.hub.events hub same.script same.events
    (record { sound = f.sound; script = f.script; runs = f.runs; events = f.events; keeps = record { maint = f.keeps.maint; initial = f.keeps.initial; slots = f.keeps.slots; places = f.keeps.places }; answers = f.answers })

pub still : (r : RunningMachine) (hub : Past) → IsAsBefore r.hub hub → IsStill r (record r { hub = hub })
still r hub same = record { script = same.script; follows = λ m f. still_followed m r hub same f }

-- the state of the hub is that of the machine
pub same_state : (m : Machine) (r : RunningMachine) → Follows m r → state_of r.hub ≡ now_in r.hub.script.vbuckets m
same_state m r f = ap (state_after r.hub.script.vbuckets) f.events

-- where the machine that was followed still is, nothing happened
pub still_carried : (old new : RunningMachine) → IsStill old new → IsFollowing old → (P : Script → List Event → Type 0) → P old.hub.script old.hub.events → P new.hub.script new.hub.events
still_carried old new same following P holds =
    let m = following.0 in
    let events : new.hub.events ≡ old.hub.events = (same.follows m following.1).events ∙ sym following.1.events in
    subst (λ s. P s new.hub.events) (sym same.script) (subst (λ es. P old.hub.script es) (sym events) holds)

pub still_following : (old new : RunningMachine) → IsStill old new → IsFollowing old → IsFollowing new
still_following old new same following = (following.0, same.follows following.0 following.1)

-- ---- an event that changes neither mutations nor live indexes

slot_in : (n : ℕ) (s t : State) (i : ℕ) (index : Live) (w : Worker) (o : Option (Option Slot)) → t.log ≡ s.log → IsSlotOf n s i index w o → IsSlotOf n t i index w o
slot_in n s t i index w None same h = absurd h
slot_in n s t i index w (Some None) same h = absurd h
slot_in n s t i index w (Some (Some slot)) same h = (subst (λ log. IsKept n log index.def slot w) (sym same) h.0, h.1)

pub keeps_in : (n : ℕ) (s t : State) (m : Machine) (r : RunningMachine) → t.live ≡ s.live → t.log ≡ s.log → Keeps n s m r → Keeps n t m r
keeps_in n s t m r live log keeps = record {
  maint = keeps.maint;
  initial = λ i index found. keeps.initial i index (ap (numbered i) (sym live) ∙ found);
  slots = λ i index found built.
      slot_in n s t i index (m.worker i) (slice_get r.slots.items i) log (keeps.slots i index (ap (numbered i) (sym live) ∙ found) built);
  places = keeps.places;
}

-- an event that adds no mutation, and leaves the live indexes as they are
pub record IsQuietEvent (e : Event) : Type 0 where
  pub log : (log : List Mutation) → log_step log e ≡ log
  pub live : (live : List Live) → live_step live e ≡ live

abbrev pub OneMore : Type 0
OneMore = (n : ℕ) (events : List Event) (e : Event) → state_after n (events ++ e ∷ []) ≡ step n (state_after n events) e

pub keeps_after : (n : ℕ) (m : Machine) (e : Event) (r : RunningMachine) → OneMore → IsQuietEvent e → Keeps n (now_in n m) m r → Keeps n (now_in n (with_event e m)) (with_event e m) r
keeps_after n m e r one_more quiet keeps =
    let then = one_more n m.events e in
    let kept = keeps_in n (now_in n m) (now_in n (with_event e m)) m r
    (ap (λ (t : State). t.live) then ∙ quiet.live (now_in n m).live) (ap (λ (t : State). t.log) then ∙ quiet.log (now_in n m).log) keeps in
    record { maint = kept.maint; initial = kept.initial; slots = kept.slots; places = kept.places }

pub event_followed : (m : Machine) (e : Event) (r : RunningMachine) (hub : Past) (answers : List Answered) → OneMore → IsQuietEvent e → Follows m r → Adds e r.hub hub
    → IsRunning r.hub.script (with_event e m) → answers ≡ answers_of r.hub.script (r.hub.events ++ e ∷ [])
    → Follows (with_event e m) (record r { hub = hub; answers = answers })
event_followed m e r hub answers one_more quiet f adds runs_on answered =
    same_past (λ p. Follows (with_event e m) (record r { hub = p; answers = answers })) r.hub.script (r.hub.events ++ e ∷ []) hub adds.script adds.events
    (record {
      sound = f.sound;
      script = f.script;
      runs = runs_on;
      events = ap (λ es. es ++ e ∷ []) f.events;
      keeps = let kept = keeps_after r.hub.script.vbuckets m e r one_more quiet f.keeps in
          record { maint = kept.maint; initial = kept.initial; slots = kept.slots; places = kept.places };
      answers = answered;
    })

-- ---- one step after another

abbrev pub TextReading : Type 0
TextReading = List ℕ → Read

-- a machine is still followed after a step
pub follows_on : (step : TextReading → Machine → Machine) (old new : RunningMachine) (read : TextReading) → AreRead read → GoesReading step old new → IsFollowing old → IsFollowing new
follows_on step old new read are goes following = (step read following.0, goes.follows read are following.0 following.1)

pub goes_still : (old : RunningMachine) → GoesReading (λ read m. m) old old
goes_still old = record { script = refl; follows = λ read are m f. f }

-- steps that depend on the script
pub goes_then : (step next : Script → TextReading → Machine → Machine) (old mid new : RunningMachine) → GoesReading (step old.hub.script) old mid → GoesReading (next mid.hub.script) mid new
    → GoesReading (λ read m. next old.hub.script read (step old.hub.script read m)) old new
goes_then step next old mid new goes on = record {
  script = on.script ∙ goes.script;
  follows = λ read are m f.
      subst (λ s. Follows (next s read (step old.hub.script read m)) new) goes.script (on.follows read are (step old.hub.script read m) (goes.follows read are m f));
}

-- a step after nothing happened
pub goes_after_still : (step : Script → TextReading → Machine → Machine) (old mid new : RunningMachine) → IsStill old mid → GoesReading (step mid.hub.script) mid new → GoesReading (step old.hub.script) old new
goes_after_still step old mid new same on = record {
  script = on.script ∙ same.script;
  follows = λ read are m f. subst (λ s. Follows (step s read m) new) same.script (on.follows read are m (same.follows m f));
}

-- a step that is the same, told otherwise
pub goes_as : (step other : TextReading → Machine → Machine) (old new : RunningMachine)
    → ((read : TextReading) → AreRead read → (m : Machine) → Follows m old → step read m ≡ other read m) → GoesReading step old new → GoesReading other old new
goes_as step other old new same goes = record {
  script = goes.script;
  follows = λ read are m f. subst (λ t. Follows t new) (same read are m f) (goes.follows read are m f);
}

-- a step that reads no statement
pub goes_reading : (step : Machine → Machine) (old new : RunningMachine) → Goes step old new → GoesReading (λ read. step) old new
goes_reading step old new goes = record { script = goes.script; follows = λ read are m f. goes.follows m f }
