-- A client's next event comes.
use Rattle.std.proofs.Common.{◌≡◌, ℕ, List, [], ◌∷◌, ◌++◌, Some, refl, sym, ap, ◌∙◌, subst, arith}
use Rattle.std.specs.Arc.{arc_value}
use Rattle.scan_history.specs.declared.script.Script.{Script}
use Rattle.scan_history.specs.Answers.{answers_of}
use Rattle.scan_history.specs.Events.{Event}
use Rattle.scan_history.specs.First.{command_at, first_of, first_action}
use Rattle.scan_history.specs.Fold.{Opened, nothing, State, state_after}
use Rattle.scan_history.specs.Legal.{MayFollow, IsLegal}
use Rattle.scan_history.specs.NextEvent.{next_of_open, next_event}
use Rattle.scan_history.specs.Readings.{Read, AreRead}
use Rattle.scan_history.specs.Sound.{IsSound}
use Rattle.gsi_hub.specs.Past.{Past, part_in, IsAsBefore, Acted}
use Rattle.gsi_sched.specs.Machine.{Machine, now_in, with_event}
use Rattle.gsi_sched.specs.ClientActions.{going_online, happened}
use Rattle.gsi_sched.specs.Running.{IsRunning}
use Rattle.gsi_sched.specs.inner.Known.{Known}
use Rattle.gsi_sched.specs.inner.Following.{Keeps, Follows, IsAhead}
use Rattle.gsi_sched.specs.inner.ClientTurns.{HasComeNext}
use Rattle.gsi_sched.specs.declared.machine.RunningMachine.{RunningMachine}
use Rattle.gsi_sched.proofs.Answers.{IsSilent, answers_same}
use Rattle.gsi_sched.proofs.FirstEvents.{by_made, by_command}
use Rattle.gsi_sched.proofs.ClientSteps.{next_is_own, happened_keeps}
use Rattle.gsi_sched.proofs.FollowedParts.{keeps_as}
use Rattle.gsi_sched.proofs.FollowedEvents.{merges_events}

-- all but the hub is the same
pub record IsBesideHub (old new : RunningMachine) : Type 0 where
  pub script : new.script ≡ old.script
  pub streams : new.streams ≡ old.streams
  pub slots : new.slots ≡ old.slots
  pub answers : new.answers ≡ old.answers

-- nothing happened
pub as_it_was : (p : Past) → IsAsBefore p p
as_it_was p = record { script = refl; events = refl; spare = omega arith }

module _ (known : Known) (old new : RunningMachine) (c : ℕ) (beside : IsBesideHub old new) (mid : Past) (before : IsAsBefore old.hub mid) where
  abbrev script : Script
  script = old.hub.script

  abbrev n : ℕ
  n = script.vbuckets

  -- what holds of the hub holds of the machine
  pub to_machine : (m : Machine) → Follows m old → (P : Script → List Event → Type 0) → P mid.script mid.events → P script m.events
  to_machine m f P holds =
      subst (P script) f.events (subst (P script) before.events (subst (λ (script : Script). P script mid.events) before.script holds))

  module _ (IsSuch : Event → Type 0) (acted : Acted c mid new.hub IsSuch) where
    abbrev e : Event
    e = acted.event

    same_script : new.hub.script ≡ script
    same_script = acted.adds.script ∙ before.script

    more_events : new.hub.events ≡ old.hub.events ++ e ∷ []
    more_events = acted.adds.events ∙ ap (λ events. events ++ e ∷ []) before.events

    next_here : (read : List ℕ → Read) → AreRead read → (m : Machine) → Follows m old → next_event read script (now_in n m) c ≡ Some e
    next_here read are m f =
        to_machine m f (λ (script : Script) (events : List Event). next_event read script (state_after script.vbuckets events) c ≡ Some e) (acted.next read are)

    module _ (silent : IsSilent e)
        (may : (read : List ℕ → Read) → AreRead read → (m : Machine) → Follows m old → next_event read script (now_in n m) c ≡ Some e → MayFollow read script (now_in n m) e) where
      runs_on : (read : List ℕ → Read) → AreRead read → (m : Machine) → Follows m old → IsRunning script (happened m e)
      runs_on read are m f =
          let next = next_here read are m f in
          happened_keeps known.below script f.sound read are m c e f.runs (next_is_own read script (now_in n m) c e next) (may read are m f next)

      ahead : (read : List ℕ → Read) → AreRead read → (m : Machine) → Follows m old → IsAhead e m new
      ahead read are m f =
          let runs = runs_on read are m f in
          let legal : IsLegal script (old.hub.events ++ e ∷ []) =
          subst (λ events. IsLegal script (events ++ e ∷ [])) (sym f.events) (subst (IsLegal script) (merges_events (going_online e) (with_event e m)) runs.legal) in
          record {
            sound = subst IsSound (sym same_script) f.sound;
            script = ap arc_value beside.script ∙ (f.script ∙ sym same_script);
            runs = subst (λ (script : Script). IsRunning script m) (sym same_script) f.runs;
            runs_on = subst (λ (script : Script). IsRunning script (happened m e)) (sym same_script) runs;
            events = more_events ∙ ap (λ events. events ++ e ∷ []) f.events;
            keeps = subst (λ (script : Script). Keeps script.vbuckets (now_in script.vbuckets m) m new) (sym same_script)
                (keeps_as n (now_in n m) m old new beside.streams beside.slots f.keeps);
            answers =
                beside.answers ∙ (f.answers ∙ (sym (answers_same script known.answers_stay old.hub.events e legal silent)
                ∙ (ap (λ (script : Script). answers_of script (old.hub.events ++ e ∷ [])) (sym same_script) ∙ ap (answers_of new.hub.script) (sym more_events))));
          }

      pub comes_next : HasComeNext c old new
      comes_next = record {
        script = same_script;
        ahead = λ read are m f. (e, next_here read are m f, ahead read are m f);
      }

  -- ---- the first event of a command

  first_is : (read : List ℕ → Read) (s : State) (o : Opened) (e : Event) → o ≡ nothing → next_of_open read script s c o ≡ Some e → first_action read script s c ≡ Some e
  first_is read s o e idle next = subst (λ o. next_of_open read script s c o ≡ Some e) idle next

  first_is_silent : (read : List ℕ → Read) (s : State) (e : Event) → first_action read script s c ≡ Some e → IsSilent e
  first_is_silent read s e is =
      let k = (s.client c).next in
      by_made IsSilent (first_of read script s c k) (command_at script c k) e
      (λ asked there.
      by_command read script s c k IsSilent (λ what. tt) (λ i deferred def. tt) (λ names deferred. tt) (λ name index found. tt)
      (λ name index demand found online. tt) (λ number why. tt) asked)
      is

  pub first_comes : (IsSuch : Event → Type 0) → (m : Machine) → Follows m old → (part_in old.hub c).opened ≡ nothing → Acted c mid new.hub IsSuch → HasComeNext c old new
  first_comes IsSuch m f idle acted =
      let read = known.some_read.0 in
      let idle_in : (m : Machine) → Follows m old → ((now_in n m).client c).opened ≡ nothing =
      λ m f. subst (λ events. ((state_after n events).client c).opened ≡ nothing) f.events idle in
      let next = next_here IsSuch acted read known.some_read.1 m f in
      let s = now_in n m in
      comes_next IsSuch acted (first_is_silent read s acted.event (first_is read s (s.client c).opened acted.event (idle_in m f) next))
      (λ read are m f next.
      known.below.first read script (now_in n m) c acted.event (idle_in m f) (first_is read (now_in n m) ((now_in n m).client c).opened acted.event (idle_in m f) next))
