-- A client's building: its indexes are caught up one after another, and then its last event happens.
use Rattle.std.proofs.Common.{◌≡◌, ◌≢◌, ℕ, false, length, Option, Some, None, IfSome, IfNone, refl, sym, ◌∙◌, subst}
use Rattle.scan_history.specs.declared.script.Script.{Script}
use Rattle.gsi_hub.specs.Past.{state_of, part_in}
use Rattle.gsi_sched.specs.Machine.{Machine}
use Rattle.gsi_sched.specs.ClientActions.{catch_up, awaited, act}
use Rattle.gsi_sched.specs.inner.Known.{Known}
use Rattle.gsi_sched.specs.inner.Following.{Follows, IsFollowing, Goes, GoesReading, HasHappened}
use Rattle.gsi_sched.specs.inner.ClientTurns.{IsBuildingFor, HasComeNext, IsStill, IsFirstAwaited, AwaitsNone}
use Rattle.gsi_sched.specs.declared.machine.RunningMachine.{RunningMachine}
use Rattle.gsi_sched.proofs.Acting.{happens_next, acts_unawaited}
use Rattle.gsi_sched.proofs.CaughtBuildings.{same_action, follows_caught}

-- the client's action is still to come: whatever has it done from now on has it done from the start
pub record IsToAct (c : ℕ) (old now : RunningMachine) : Type 0 where
  pub script : now.hub.script ≡ old.hub.script
  pub acts : (new : RunningMachine) → GoesReading (λ read. act read old.hub.script c) now new → GoesReading (λ read. act read old.hub.script c) old new

pub to_act : (c : ℕ) (r : RunningMachine) → IsToAct c r r
to_act c r = record { script = refl; acts = λ new goes. goes }

-- how many indexes the client's command waits for
abbrev pub lag_count : ℕ → RunningMachine → ℕ
lag_count c r = length (awaited false (state_of r.hub) (part_in r.hub c).opened)

-- what the end of a building answers: the first index that lags, or nothing where it ended
module _ (c : ℕ) (old new : RunningMachine) (o : Option ℕ) where
  pub first_that_lags : (i : ℕ) → o ≡ Some i → IfSome o (λ j. IsFirstAwaited c j old × IsStill old new) → IsFirstAwaited c i old × IsStill old new
  first_that_lags i is so = subst (λ x. IfSome x (λ j. IsFirstAwaited c j old × IsStill old new)) is so

  none_so : (P : Type 0) (x : Option ℕ) → ((i : ℕ) → x ≢ Some i) → IfNone x P → P
  none_so P None not_some so = so
  none_so P (Some i) not_some so = absurd (not_some i refl)

  pub has_come : ((i : ℕ) → o ≢ Some i) → IfNone o (HasComeNext c old new) → HasComeNext c old new
  has_come not_some so = none_so (HasComeNext c old new) o not_some so

  pub awaits_none : ((i : ℕ) → o ≢ Some i) → IfNone o (AwaitsNone c old) → AwaitsNone c old
  awaits_none not_some so = none_so (AwaitsNone c old) o not_some so

act_in : (c : ℕ) (now new : RunningMachine) (script : Script) → now.hub.script ≡ script → GoesReading (λ read. act read now.hub.script c) now new
    → GoesReading (λ read. act read script c) now new
act_in c now new script same goes = record {
  script = goes.script;
  follows = λ read are m f. subst (λ (s : Script). Follows (act read s c m) new) same (goes.follows read are m f);
}

module _ (known : Known) (start now mid : RunningMachine) (c : ℕ) (to_come : IsToAct c start now) where
  -- the building ends
  pub acted : (new : RunningMachine) → AwaitsNone c now → HasComeNext c now mid → HasHappened mid new → GoesReading (λ read. act read start.hub.script c) start new
  acted new none come done =
      to_come.acts new
      (act_in c now new start.hub.script to_come.script (acts_unawaited now c new none (happens_next now c mid new come done)))

  -- the first index that lags is caught up
  module _ (i : ℕ) (building : IsBuildingFor now.hub c) (first : IsFirstAwaited c i now) (still : IsStill now mid) (new : RunningMachine)
      (goes : Goes (λ m. catch_up mid.hub.script.vbuckets m i) mid new) where
    same_script : new.hub.script ≡ now.hub.script
    same_script = goes.script ∙ still.script

    pub to_act_then : IsToAct c start new
    to_act_then = record {
      script = same_script ∙ to_come.script;
      acts = λ later acts.
          to_come.acts later (record {
            script = acts.script ∙ same_script;
            follows = λ read are m f.
                subst (λ (t : Machine). Follows t later)
                (sym (subst (λ (s : Script). act read s c m ≡ act read s c (catch_up now.hub.script.vbuckets m i)) to_come.script
                (same_action known now mid c i building first still m f read)))
                (acts.follows read are (catch_up now.hub.script.vbuckets m i) (follows_caught known now mid c i building first still m f new goes));
          });
    }

    pub following_then : IsFollowing now → IsFollowing new
    following_then following = (catch_up now.hub.script.vbuckets following.0 i, follows_caught known now mid c i building first still following.0 following.1 new goes)
