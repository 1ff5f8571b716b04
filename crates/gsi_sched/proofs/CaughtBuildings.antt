-- A client's building, once the first of its indexes that lag is caught up.
use Rattle.std.proofs.Common.{◌≡◌, ℕ, ◌<◌, false, List, [], ◌∷◌, length, sym, ap, ◌∙◌, subst, arith}
use Rattle.std.specs.List.{AllByRecursion}
use Rattle.index_def.specs.LiveIndexes.{numbered}
use Rattle.scan_history.specs.declared.script.Script.{Script}
use Rattle.scan_history.specs.Consistent.{IsReached, IsOpenSince}
use Rattle.scan_history.specs.First.{command_at}
use Rattle.scan_history.specs.Fold.{work, Client, State}
use Rattle.scan_history.specs.Legal.{waits}
use Rattle.scan_history.specs.Readings.{Read}
use Rattle.gsi_hub.specs.Past.{state_of, part_in}
use Rattle.gsi_sched.specs.Machine.{Machine, now_in, high_in}
use Rattle.gsi_sched.specs.ClientActions.{catch_up, caught_up, awaited, awaited_by, go_on, act}
use Rattle.gsi_sched.specs.Running.{IsWorking}
use Rattle.gsi_sched.specs.inner.Known.{Known}
use Rattle.gsi_sched.specs.inner.Following.{Follows, Goes, IsWorkingIn}
use Rattle.gsi_sched.specs.inner.ClientTurns.{IsWork, IsBuildingFor, IsStill, IsFirstOf, IsFirstAwaited}
use Rattle.gsi_sched.specs.declared.machine.RunningMachine.{RunningMachine}
use Rattle.gsi_sched.proofs.CatchUps.{caught_one}
use Rattle.gsi_sched.proofs.ClientSteps.{awaited_work}
use Rattle.gsi_sched.proofs.FollowedParts.{same_state}
use Rattle.gsi_sched.proofs.Buildings.{Builds, builds}
use Rattle.gsi_sched.proofs.AwaitedIndexes.{rest_awaited}

-- a list that begins so
pub record Begins (i : ℕ) (is : List ℕ) : Type 0 where
  pub rest : List ℕ
  pub are : is ≡ i ∷ rest

begins_so : (i : ℕ) (is : List ℕ) → IsFirstOf i is → Begins i is
begins_so i [] first = absurd first
begins_so i (j ∷ js) first = record { rest = js; are = ap (λ k. k ∷ js) (sym first) }

module _ (known : Known) (old mid : RunningMachine) (c i : ℕ) (building : IsBuildingFor old.hub c) (first : IsFirstAwaited c i old) (still : IsStill old mid)
    (m : Machine) (f : Follows m old) where
  abbrev script : Script
  script = old.hub.script

  abbrev n : ℕ
  n = script.vbuckets

  abbrev s : State
  s = now_in n m

  its : Builds (s.client c).opened
  its = builds (s.client c).opened (subst (λ (t : State). IsWork (t.client c).opened) (same_state m old f) building)

  begins : Begins i (awaited false s (work its.numbers its.since))
  begins =
      begins_so i (awaited false s (work its.numbers its.since))
      (subst (λ o. IsFirstOf i (awaited (waits (command_at script c (s.client c).next)) s o)) its.is (first known.some_read.0 known.some_read.1 m f))

  it_works : IsWorking s.live i
  it_works =
      let all = awaited_work known.below script known.some_read.0 m c f.runs in
      let are : AllByRecursion (IsWorking s.live) (awaited (waits (command_at script c (s.client c).next)) s (work its.numbers its.since)) =
      subst (λ o. AllByRecursion (IsWorking s.live) (awaited (waits (command_at script c (s.client c).next)) s o)) its.is all in
      (subst (AllByRecursion (IsWorking s.live)) begins.are are).0

  pub works_in_hub : IsWorkingIn mid i
  works_in_hub =
      let g = still.follows m f in
      let same : state_of mid.hub ≡ s = same_state m mid g ∙ ap (λ (script : Script). now_in script.vbuckets m) still.script in
      (it_works.0, ap (λ (t : State). numbered i t.live) same ∙ it_works.1, it_works.2)

  since_reached : IsReached (high_in n m) its.since
  since_reached =
      let holds = known.below.consistent script m.events f.runs.legal in
      (subst (IsOpenSince (high_in n m) (length s.defs)) its.is (holds.client c).opened).1

  abbrev t : Machine
  t = catch_up n m i

  client_stays : (now_in n t).client c ≡ s.client c
  client_stays =
      let one = caught_one known.below script known.some_read.0 known.some_read.1 m i f.runs it_works in
      ap (λ (g : ℕ → Client). g c) one.1.client

  open_then : ((now_in n t).client c).opened ≡ work its.numbers its.since
  open_then = ap (λ (p : Client). p.opened) client_stays ∙ its.is

  rest_is : awaited false (now_in n t) (work its.numbers its.since) ≡ begins.rest
  rest_is = rest_awaited known.below script known.some_read.0 known.some_read.1 m i begins.rest its.numbers its.since f.runs it_works since_reached begins.are

  -- the action is still to come
  pub same_action : (read : List ℕ → Read) → act read script c m ≡ act read script c t
  same_action read =
      let now : awaited_by read script c m ≡ i ∷ begins.rest = ap (awaited (waits (command_at script c (s.client c).next)) s) its.is ∙ begins.are in
      let later : awaited_by read script c t ≡ begins.rest =
      ap (awaited (waits (command_at script c ((now_in n t).client c).next)) (now_in n t)) open_then ∙ rest_is in
      ap (λ is. go_on read script c (caught_up n is m)) now ∙ sym (ap (λ is. go_on read script c (caught_up n is t)) later)

  module _ (new : RunningMachine) (goes : Goes (λ m. catch_up mid.hub.script.vbuckets m i) mid new) where
    pub follows_caught : Follows t new
    follows_caught =
        subst (λ (script : Script). Follows (catch_up script.vbuckets m i) new) still.script (goes.follows m (still.follows m f))

    hub_caught : state_of new.hub ≡ now_in n t
    hub_caught = same_state t new follows_caught ∙ ap (λ (script : Script). now_in script.vbuckets t) (goes.script ∙ still.script)

    pub builds_still : IsBuildingFor new.hub c
    builds_still =
        subst (λ (u : State). IsWork (u.client c).opened) (sym hub_caught) (subst IsWork (sym open_then) tt)

    -- fewer lag
    abbrev pub lag_count : RunningMachine → ℕ
    lag_count r = length (awaited false (state_of r.hub) (part_in r.hub c).opened)

    pub fewer_lag : lag_count new < lag_count old
    fewer_lag =
        let after : lag_count new ≡ length begins.rest =
        ap (λ (u : State). length (awaited false u (u.client c).opened)) hub_caught ∙ (ap (λ o. length (awaited false (now_in n t) o)) open_then ∙ ap length rest_is) in
        let now : lag_count old ≡ length (i ∷ begins.rest) =
        ap (λ (u : State). length (awaited false u (u.client c).opened)) (same_state m old f) ∙ (ap (λ o. length (awaited false s o)) its.is ∙ ap length begins.are) in
        omega (arith, after, now)
