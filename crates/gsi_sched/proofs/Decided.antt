-- What the code's calls of the hub come to at a client's request, once there is room for an event.
use Rattle.std.proofs.Common.{◌≡◌, ℕ, List, sym, subst}
use Rattle.std.specs.Prelude.{⊤}
use Rattle.std.specs.declared.alloc.Global.{Global}
use Rattle.std.specs.declared.sync.Arc.{Arc}
use Rattle.std.specs.Arc.{arc_value}
use Rattle.index_snapshot.specs.declared.snapshot.Snapshot.{Snapshot}
use Rattle.scan_history.specs.declared.script.Script.{Script}
use Rattle.scan_history.specs.Events.{Event, not_yet}
use Rattle.scan_history.specs.First.{command_at}
use Rattle.scan_history.specs.Fold.{state_after}
use Rattle.scan_history.specs.Legal.{MayNotYet, waits}
use Rattle.gsi_hub.specs.declared.picked.Picked.{Picked as Pick}
use Rattle.gsi_hub.specs.declared.picked.Picked.TheVariants as pick
use Rattle.gsi_hub.specs.Outcomes.{IsPick}
use Rattle.gsi_hub.specs.Past.{Past, state_of, part_in, next_command, IsAsBefore, Acted}
use Rattle.gsi_hub.specs.Stages.{OnRequest}
use Rattle.gsi_sched.specs.ClientActions.{go_on, act}
use Rattle.gsi_sched.specs.declared.machine.RunningMachine.{RunningMachine}
use Rattle.gsi_sched.specs.inner.ClientTurns.{IsStarted, IsShort, IsShortOf, IsUntoldFrom, IsTold, IsStill}
use Rattle.gsi_sched.specs.inner.Following.{IsFollowing, GoesReading}
use Rattle.gsi_sched.specs.inner.Known.{Known}
use Rattle.gsi_sched.proofs.Followed.{carried, carried_back, still, still_carried, still_following, goes_after_still}
use Rattle.gsi_sched.proofs.OpenRequests.{IsOpenRequest, open_request, request_is, on_request, AwaitsNone, acts_now}
use Rattle.gsi_sched.proofs.ShortRequests.{not_yet_goes_on, dropped_goes_on, picked_untold, picked_goes_on, not_yet_is_short}

-- what may be said of a request, by the script and the events
abbrev ShortAt : ℕ → List ℕ → Script → List Event → Type 0
ShortAt c at script events = let s = state_after script.vbuckets events in IsShort s at (s.client c).opened

abbrev MayAt : ℕ → List ℕ → Script → List Event → Type 0
MayAt c at script events = let s = state_after script.vbuckets events in MayNotYet s (waits (command_at script c (s.client c).next)) at (s.client c).opened

abbrev OpenAt : ℕ → (ℕ → Type 0) → Script → List Event → Type 0
OpenAt c IsIndex script events = let s = state_after script.vbuckets events in IsStarted (s.client c).opened IsIndex

-- where nothing happened
module _ (old new : RunningMachine) (same : IsStill old new) (following : IsFollowing old) (c : ℕ) where
  pub short_still : (at : List ℕ) → IsShortOf c at old → IsShortOf c at new
  short_still at = still_carried old new same following (ShortAt c at)

  pub short_was : (at : List ℕ) → IsShortOf c at new → IsShortOf c at old
  short_was at is =
      still_carried old new same following (λ script events. ShortAt c at script events → IsShortOf c at old) (λ h. h) is

  pub may_still : (at : List ℕ) → MayNotYet (state_of old.hub) (waits (next_command old.hub c)) at (part_in old.hub c).opened
      → MayNotYet (state_of new.hub) (waits (next_command new.hub c)) at (part_in new.hub c).opened
  may_still at = still_carried old new same following (MayAt c at)

  pub open_still : (IsIndex : ℕ → Type 0) → IsStarted (part_in old.hub c).opened IsIndex → IsStarted (part_in new.hub c).opened IsIndex
  open_still IsIndex = still_carried old new same following (OpenAt c IsIndex)

-- there is room for an event now
module _ (known : Known) (r : RunningMachine) (hub : Past) (same : IsAsBefore r.hub hub) (c : ℕ) where
  abbrev mid : RunningMachine
  mid = record r { hub = hub }

  unmoved : IsStill r mid
  unmoved = still r hub same

  pub may_in : (at : List ℕ) → MayNotYet (state_of r.hub) (waits (next_command r.hub c)) at (part_in r.hub c).opened
      → MayNotYet (state_of hub) (waits (next_command hub c)) at (part_in hub c).opened
  may_in at = carried r.hub hub same (MayAt c at)

  pub says_not_yet : (new : Past) (at : List ℕ) → MayNotYet (state_of r.hub) (waits (next_command r.hub c)) at (part_in r.hub c).opened
      → Acted c hub new (λ e. e ≡ not_yet c (part_in hub c).next at) → GoesReading (λ read. go_on read r.hub.script c) r (record r { hub = new })
  says_not_yet new at may acts =
      goes_after_still (λ s read. go_on read s c) r mid (record r { hub = new }) unmoved (not_yet_goes_on known mid c new at (may_in at may) acts)

  module _ (open_then : IsStarted (part_in r.hub c).opened (λ j. ⊤)) where
    request : IsOpenRequest (part_in hub c).opened (λ j. ⊤)
    request = open_request (part_in hub c).opened (λ j. ⊤) (carried r.hub hub same (OpenAt c (λ j. ⊤)) open_then)

    pub is_request : OnRequest (part_in hub c).opened (λ i demand. ⊤)
    is_request = request_is (part_in hub c).opened (λ i demand. ⊤) request.i request.demand request.since request.opened tt

    module _ (new : Past) (picked : Pick) (is : OnRequest (part_in hub c).opened (λ i demand. IsPick c i demand hub picked new)) where
      at_request : IsPick c request.i request.demand hub picked new
      at_request = on_request (part_in hub c).opened (λ i demand. IsPick c i demand hub picked new) request.i request.demand request.since request.opened is

      pub untold_of : IsFollowing r → (x : Arc Snapshot Global) → picked ≡ pick.Picked x → IsUntoldFrom (arc_value x) (record r { hub = new })
      untold_of following x it =
          let p = subst (λ q. IsPick c request.i request.demand hub q new) it at_request in
          picked_untold known mid c request new (arc_value x) (still_following r mid unmoved following) p.2 p.1 p.3

      -- it is answered
      module _ (x : Arc Snapshot Global) (it : picked ≡ pick.Picked x) (told : RunningMachine) (tells : IsTold (record r { hub = new }) told) where
        answers : AwaitsNone known mid c × GoesReading (λ read. go_on read hub.script c) mid told
        answers =
            let p = subst (λ q. IsPick c request.i request.demand hub q new) it at_request in
            picked_goes_on known mid c request new told p.2 p.3 tells

        pub answered_on : GoesReading (λ read. go_on read r.hub.script c) r told
        answered_on = goes_after_still (λ s read. go_on read s c) r mid told unmoved answers.1

        pub answered_act : GoesReading (λ read. act read r.hub.script c) r told
        answered_act = goes_after_still (λ s read. act read s c) r mid told unmoved (acts_now known mid c told answers.0 answers.1)

      -- it is refused
      module _ (it : picked ≡ pick.Dropped) where
        refuses : AwaitsNone known mid c × GoesReading (λ read. go_on read hub.script c) mid (record r { hub = new })
        refuses = dropped_goes_on known mid c request new (subst (λ q. IsPick c request.i request.demand hub q new) it at_request)

        pub refused_on : GoesReading (λ read. go_on read r.hub.script c) r (record r { hub = new })
        refused_on = goes_after_still (λ s read. go_on read s c) r mid (record r { hub = new }) unmoved refuses.1

        pub refused_act : GoesReading (λ read. act read r.hub.script c) r (record r { hub = new })
        refused_act = goes_after_still (λ s read. act read s c) r mid (record r { hub = new }) unmoved (acts_now known mid c (record r { hub = new }) refuses.0 refuses.1)

      -- it isn't answered yet
      pub short_now : (vb want have : ℕ) (at : Arc (List ℕ) Global) → picked ≡ pick.NotYet vb want have at → IsShortOf c (arc_value at) r × IsStill r (record r { hub = new })
      short_now vb want have at it =
          let p = subst (λ q. IsPick c request.i request.demand hub q new) it at_request in (
            carried_back r.hub hub same (ShortAt c (arc_value at)) (not_yet_is_short known mid c request new vb want have (arc_value at) p.0 p.1 p.2),
            subst (λ h. IsStill r (record r { hub = h })) (sym p.3) unmoved,
          )
