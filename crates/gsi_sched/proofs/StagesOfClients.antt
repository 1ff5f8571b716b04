-- What a client is at, of a machine that is followed.
use Rattle.std.proofs.Common.{◌≡◌, ℕ, false, sym, subst}
use Rattle.std.specs.Option.{is_some}
use Rattle.scan_history.specs.Fold.{nothing}
use Rattle.scan_history.specs.Legal.{IsLegal}
use Rattle.gsi_hub.specs.declared.stage.Stage.{Stage}
use Rattle.gsi_hub.specs.declared.stage.Stage.TheVariants as stage
use Rattle.gsi_hub.specs.Past.{part_in, next_command}
use Rattle.gsi_hub.specs.Stages.{stage_in}
use Rattle.gsi_sched.specs.inner.Known.{Known}
use Rattle.gsi_sched.specs.inner.Following.{IsFollowing}
use Rattle.gsi_sched.specs.inner.ClientTurns.{IsIdle, IsBuildingFor, IsRequestOn}
use Rattle.gsi_sched.specs.declared.machine.RunningMachine.{RunningMachine}
use Rattle.gsi_sched.proofs.NothingPicked.{Means, stage_means, nothing_is_picked, picks_nothing}

module _ (r : RunningMachine) (c : ℕ) (st : Stage) (is : st ≡ stage_in r.hub c) where
  means_here : Means (part_in r.hub c).opened (is_some (next_command r.hub c)) st
  means_here = stage_means (part_in r.hub c).opened (is_some (next_command r.hub c)) st is

  means_at : (at : Stage) → st ≡ at → Means (part_in r.hub c).opened (is_some (next_command r.hub c)) at
  means_at at so = subst (Means (part_in r.hub c).opened (is_some (next_command r.hub c))) so means_here

  pub ended_here : st ≡ stage.Ended → ((part_in r.hub c).opened ≡ nothing) × (is_some (next_command r.hub c) ≡ false)
  ended_here so = means_at stage.Ended so

  pub idle_here : st ≡ stage.Idle → IsIdle r.hub c
  idle_here so = let it = means_at stage.Idle so in record { opened = it.0; more = it.1 }

  pub builds_here : st ≡ stage.Work → IsBuildingFor r.hub c
  builds_here so = means_at stage.Work so

  pub asks_here : (i : ℕ) → st ≡ stage.Started i → IsRequestOn r.hub c i
  asks_here i so = means_at (stage.Started i) so

  pub never_picked : (known : Known) → IsFollowing r → (i : ℕ) → st ≡ stage.Picked i → ⊥
  never_picked known following i so =
      let f = following.1 in
      picks_nothing (part_in r.hub c).opened
      (nothing_is_picked known r.hub.script r.hub.events (subst (IsLegal r.hub.script) (sym f.events) f.runs.legal) c)
      (means_at (stage.Picked i) so)
