-- A client's action is followed, from what its calls give.
use Rattle.std.proofs.Common.{◌≡◌, ℕ, false, List, [], Option, Some, None, is_some, refl, sym, ap, ◌∙◌, subst}
use Rattle.std.specs.Option.{option_map, option_map_or}
use Rattle.std.proofs.lemmas.Bool.{true≢false}
use Rattle.scan_history.specs.declared.command.Command.{Command}
use Rattle.scan_history.specs.declared.script.Script.{Script}
use Rattle.scan_history.specs.Events.{Event}
use Rattle.scan_history.specs.First.{command_at, first_of}
use Rattle.scan_history.specs.Fold.{nothing, State}
use Rattle.scan_history.specs.Legal.{waits}
use Rattle.scan_history.specs.NextEvent.{next_of_open, next_event}
use Rattle.scan_history.specs.Readings.{Read}
use Rattle.gsi_hub.specs.Past.{part_in, next_command}
use Rattle.gsi_sched.specs.Machine.{Machine, now_in}
use Rattle.gsi_sched.specs.ClientActions.{awaited, awaited_by, caught_up, happened, go_on, act}
use Rattle.gsi_sched.specs.inner.Known.{Known}
use Rattle.gsi_sched.specs.inner.Following.{Follows, IsFollowing, IsOneAhead, GoesReading, HasHappened}
use Rattle.gsi_sched.specs.inner.ClientTurns.{HasComeNext, AwaitsNone}
use Rattle.gsi_sched.specs.declared.machine.RunningMachine.{RunningMachine}
use Rattle.gsi_sched.proofs.FollowedParts.{same_state}

module _ (read : List ℕ → Read) (script : Script) (c : ℕ) where
  abbrev n : ℕ
  n = script.vbuckets

  -- with nothing to wait for, the client's next event happens
  pub acts_at_once : (m : Machine) → awaited_by read script c m ≡ [] → act read script c m ≡ go_on read script c m
  acts_at_once m none = ap (λ is. go_on read script c (caught_up n is m)) none

  pub goes_to : (m : Machine) (e : Event) → next_event read script (now_in n m) c ≡ Some e → go_on read script c m ≡ happened m e
  goes_to m e is = ap (λ o. option_map_or (happened m) o m) is

  stays_at : (m : Machine) → next_event read script (now_in n m) c ≡ None → go_on read script c m ≡ m
  stays_at m is = ap (λ o. option_map_or (happened m) o m) is

  -- where nothing is open
  idle_awaits : (m : Machine) → ((now_in n m).client c).opened ≡ nothing → awaited_by read script c m ≡ []
  idle_awaits m idle = ap (awaited (waits (command_at script c ((now_in n m).client c).next)) (now_in n m)) idle

  none_left : (s : State) (o : Option Command) → is_some o ≡ false → option_map (first_of read script s c (s.client c).next) o ≡ None
  none_left s None is = refl
  none_left s (Some asked) is = absurd (true≢false is)

  no_next : (s : State) → (s.client c).opened ≡ nothing → is_some (command_at script c (s.client c).next) ≡ false → next_event read script s c ≡ None
  no_next s idle ended = ap (next_of_open read script s c) idle ∙ none_left s (command_at script c (s.client c).next) ended

module _ (old : RunningMachine) (c : ℕ) where
  -- the next event came, and what it leads to happened
  pub happens_next : (mid new : RunningMachine) → HasComeNext c old mid → HasHappened mid new → GoesReading (λ read. go_on read old.hub.script c) old new
  happens_next mid new come done = record {
    script = done.script ∙ come.script;
    follows = λ read are m f.
        let next = come.ahead read are m f in
        subst (λ (t : Machine). Follows t new) (sym (goes_to read old.hub.script c m next.0 next.1)) (done.follows m next.0 next.2);
  }

  pub is_one_ahead : (known : Known) (mid : RunningMachine) → IsFollowing old → HasComeNext c old mid → IsOneAhead mid
  is_one_ahead known mid following come =
      let next = come.ahead known.some_read.0 known.some_read.1 following.0 following.1 in
      (following.0, next.0, next.2)

  idle_in : (m : Machine) → Follows m old → (part_in old.hub c).opened ≡ nothing → ((now_in old.hub.script.vbuckets m).client c).opened ≡ nothing
  idle_in m f idle = subst (λ (s : State). (s.client c).opened ≡ nothing) (same_state m old f) idle

  -- an action with nothing open is the client's next event
  pub acts_idle : (new : RunningMachine) → (part_in old.hub c).opened ≡ nothing → GoesReading (λ read. go_on read old.hub.script c) old new
      → GoesReading (λ read. act read old.hub.script c) old new
  acts_idle new idle goes = record {
    script = goes.script;
    follows = λ read are m f.
        subst (λ (t : Machine). Follows t new)
        (sym (acts_at_once read old.hub.script c m (idle_awaits read old.hub.script c m (idle_in m f idle)))) (goes.follows read are m f);
  }

  -- and none where the client has nothing left
  pub acts_ended : (part_in old.hub c).opened ≡ nothing → is_some (next_command old.hub c) ≡ false → GoesReading (λ read. act read old.hub.script c) old old
  acts_ended idle ended = record {
    script = refl;
    follows = λ read are m f.
        let script = old.hub.script in
        let here = idle_in m f idle in
        let none : is_some (command_at script c ((now_in script.vbuckets m).client c).next) ≡ false =
        subst (λ (s : State). is_some (command_at script c (s.client c).next) ≡ false) (same_state m old f) ended in
        subst (λ (t : Machine). Follows t old)
        (sym (acts_at_once read script c m (idle_awaits read script c m here) ∙ stays_at read script c m (no_next read script c (now_in script.vbuckets m) here none))) f;
  }

  -- a building that ends
  pub acts_unawaited : (new : RunningMachine) → AwaitsNone c old → GoesReading (λ read. go_on read old.hub.script c) old new → GoesReading (λ read. act read old.hub.script c) old new
  acts_unawaited new none goes = record {
    script = goes.script;
    follows = λ read are m f. subst (λ (t : Machine). Follows t new) (sym (acts_at_once read old.hub.script c m (none read are m f))) (goes.follows read are m f);
  }
