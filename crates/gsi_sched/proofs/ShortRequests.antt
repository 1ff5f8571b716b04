-- What a client's request comes to, as the code decides it.
use Rattle.std.proofs.Common.{◌≡◌, ℕ, true, false, List, Some, refl, sym, ap, ◌∙◌, subst}
use Rattle.std.specs.Prelude.{⊤}
use Rattle.seq_vector.specs.Vectors.{IsCovered}
use Rattle.index_def.specs.LiveIndexes.{Live, numbered}
use Rattle.index_snapshot.specs.declared.snapshot.Snapshot.{Snapshot}
use Rattle.scan_coord.specs.declared.decision.Decision.TheVariants as decision
use Rattle.scan_coord.specs.Decisions.{decision_of}
use Rattle.scan_history.specs.declared.script.Script.{Script}
use Rattle.scan_history.specs.declared.why.Why.TheVariants.{Plain}
use Rattle.scan_history.specs.Events.{answer, not_yet, refuse}
use Rattle.scan_history.specs.Fold.{Opened, nothing, work, started, picked, State}
use Rattle.scan_history.specs.Legal.{IfLive, MayNotYet, MayFollow, waits}
use Rattle.scan_history.specs.NextEvent.{next_event}
use Rattle.scan_history.specs.Refusals as code
use Rattle.gsi_hub.specs.declared.picked.Picked.TheVariants as pick
use Rattle.gsi_hub.specs.Outcomes.{IsPick}
use Rattle.gsi_hub.specs.Past.{Past, state_of, part_in, next_command, Acted}
use Rattle.gsi_hub.specs.Snapshots.{IsNewestOf}
use Rattle.gsi_sched.specs.ClientActions.{catch_up, go_on, act}
use Rattle.gsi_sched.specs.declared.machine.RunningMachine.{RunningMachine}
use Rattle.gsi_sched.specs.inner.ClientTurns.{IsStarted, IsShort, IsShortOf, IsUntoldFrom, IsSnapshotFor, IsScanAt, IsTold}
use Rattle.gsi_sched.specs.inner.Following.{Follows, IsFollowing, Goes, GoesReading, IsWorkingIn}
use Rattle.gsi_sched.specs.inner.Known.{Known}
use Rattle.gsi_sched.proofs.Followed.{IsQuietEvent, same_state, goes_then, goes_as, goes_reading}
use Rattle.gsi_sched.proofs.OpenRequests.{AwaitsNone, IsOpenRequest, live_there, acts_now, may_now, closed_goes_on, covered_now, dropped_now, impatient_now, untold, answered_goes_on, snapshot_for, is_scan, is_short_of, short_may, not_yet_short, works, acts_caught_up, still_open, may_then}

not_yet_quiet : (c k : ℕ) (at : List ℕ) → IsQuietEvent (not_yet c k at)
not_yet_quiet c k at = record { log = λ log. refl; live = λ live. refl }

dropped_quiet : (c k : ℕ) → IsQuietEvent (refuse c k code.dropped Plain)
dropped_quiet c k = record { log = λ log. refl; live = λ live. refl }

module _ (known : Known) (r : RunningMachine) (c : ℕ) where
  abbrev script : Script
  script = r.hub.script

  abbrev s : State
  s = state_of r.hub

  -- it isn't answered yet
  pub not_yet_goes_on : (hub : Past) (at : List ℕ) → MayNotYet s (waits (next_command r.hub c)) at (s.client c).opened
      → Acted c r.hub hub (λ e. e ≡ not_yet c (part_in r.hub c).next at) → GoesReading (λ read. go_on read script c) r (record r { hub = hub })
  not_yet_goes_on hub at may acts =
      let k = (s.client c).next in
      closed_goes_on known r c hub (not_yet c k at) (not_yet_quiet c k at) tt refl acts
      (λ read are m f. subst (λ (t : State). MayFollow read script t (not_yet c k at)) (same_state m r f) (refl, may))

  module _ (o : IsOpenRequest (s.client c).opened (λ i. ⊤)) where
    -- it is refused
    pub dropped_goes_on : (hub : Past) → IsPick c o.i o.demand r.hub pick.Dropped hub
        → AwaitsNone known r c × GoesReading (λ read. go_on read script c) r (record r { hub = hub })
    dropped_goes_on hub is =
        let k = (s.client c).next in
        let none = dropped_now known r c o.i o.demand o.since o.opened is.0 in (
          none,
          closed_goes_on known r c hub (refuse c k code.dropped Plain) (dropped_quiet c k) tt refl is.1
              (λ read are m f. may_now known r c read are m (refuse c k code.dropped Plain) f none
              (subst (λ (t : State). next_event read script t c ≡ Some (refuse c k code.dropped Plain)) (same_state m r f) (is.1.next read are ∙ ap Some is.1.such))),
        )

    -- it is answered, and the text is missing
    pub picked_untold : (hub : Past) (x : Snapshot) → IsFollowing r → IsCovered o.demand (s.published o.i) → IsNewestOf r.hub o.i (Some x)
        → Acted c r.hub hub (λ e. e ≡ answer c (part_in r.hub c).next (s.published o.i)) → IsUntoldFrom x (record r { hub = hub })
    picked_untold hub x following covered newest acts =
        let m = following.0 in
        let f = following.1 in
        let k = (s.client c).next in
        let at : List ℕ = s.published o.i in (
          m,
          c,
          k,
          at,
          untold known r c o.i o.demand o.since o.opened hub covered acts known.some_read.0 known.some_read.1 m f,
          subst (λ (y : Script). IsSnapshotFor y.vbuckets c at m x) (sym acts.adds.script) (snapshot_for known r c o.i o.demand o.since o.opened x m f newest),
          subst (λ (y : Script). IsScanAt y c k) (sym acts.adds.script) (is_scan known r c o.i o.demand o.since o.opened m f),
        )

    pub picked_goes_on : (hub : Past) (new : RunningMachine) → IsCovered o.demand (s.published o.i)
        → Acted c r.hub hub (λ e. e ≡ answer c (part_in r.hub c).next (s.published o.i)) → IsTold (record r { hub = hub }) new
        → AwaitsNone known r c × GoesReading (λ read. go_on read script c) r new
    picked_goes_on hub new covered acts told = (
      covered_now known r c o.i o.demand o.since o.opened covered,
      record {
        script = told.script ∙ acts.adds.script;
        follows = λ read are m f.
            subst (λ t. Follows t new) (sym (answered_goes_on known r c o.i o.demand o.since o.opened hub acts read are m f))
            (told.follows m c (s.client c).next (s.published o.i) (untold known r c o.i o.demand o.since o.opened hub covered acts read are m f));
      },
    )

    -- the newest publication doesn't cover its demand
    pub not_yet_is_short : (hub : Past) (vb want have : ℕ) (at : List ℕ) → IfLive o.i s (λ index. ⊤) → decision_of o.demand (s.published o.i) ≡ decision.NotYet vb want have → at ≡ s.published o.i
        → IsShortOf c at r
    not_yet_is_short hub vb want have at live decided is =
        let index = live_there (numbered o.i s.live) (λ index. ⊤) live in
        is_short_of known r c o.i o.demand o.since o.opened at index.0 index.1 is (not_yet_short known o.demand (s.published o.i) vb want have decided)

-- ---- a request that is short

-- a client's request on a live index, whose newest publication is at this vector, which doesn't cover the demand
pub record IsShortRequest (s : State) (c i : ℕ) (at : List ℕ) : Type 0 where
  pub demand : List ℕ
  pub since : List ℕ
  pub opened : (s.client c).opened ≡ started i demand since
  pub index : Live
  pub found : numbered i s.live ≡ Some index
  pub is : at ≡ s.published i
  pub short : ¬ IsCovered demand at

pub short_request : (s : State) (c i : ℕ) (at : List ℕ) → IsStarted (s.client c).opened (λ j. j ≡ i) → IsShort s at (s.client c).opened → IsShortRequest s c i at
short_request s c i at own short = by (s.client c).opened refl own short
  where
    by : (o : Opened) → (s.client c).opened ≡ o → IsStarted o (λ j. j ≡ i) → IsShort s at o → IsShortRequest s c i at
    by nothing is own short = absurd own
    by (work numbers since) is own short = absurd own
    by (started j demand since) is own short = record {
      demand = demand;
      since = since;
      opened = is ∙ ap (λ k. started k demand since) own;
      index = short.0.0;
      found = subst (λ k. numbered k s.live ≡ Some short.0.0) own short.0.1;
      is = short.1 ∙ ap s.published own;
      short = short.2;
    }
    by (picked j v) is own short = absurd own

module _ (known : Known) (r : RunningMachine) (c i : ℕ) (at : List ℕ) (q : IsShortRequest (state_of r.hub) c i at) where
  short_board : ¬ IsCovered q.demand ((state_of r.hub).published i)
  short_board = subst (λ v. ¬ IsCovered q.demand v) q.is q.short

  -- it doesn't wait
  pub impatient_acts : (new : RunningMachine) → waits (next_command r.hub c) ≡ false → GoesReading (λ read. go_on read r.hub.script c) r new
      → GoesReading (λ read. act read r.hub.script c) r new
  impatient_acts new never goes = acts_now known r c new (impatient_now known r c i q.demand q.since q.opened never) goes

  pub impatient_may : waits (next_command r.hub c) ≡ false → MayNotYet (state_of r.hub) (waits (next_command r.hub c)) at (part_in r.hub c).opened
  impatient_may never =
      short_may known r c i q.demand q.since q.opened (waits (next_command r.hub c)) at never
      (subst (IsShort (state_of r.hub) at) (sym q.opened) ((q.index, q.found), q.is, q.short))

  -- its index is caught up, and then it is decided
  pub its_index_works : IsFollowing r → IsWorkingIn r i
  its_index_works following = works known r c i q.demand q.since q.opened following.0 following.1 q.index q.found

  pub caught_up_acts : (mid new : RunningMachine) → waits (next_command r.hub c) ≡ true → Goes (λ m. catch_up r.hub.script.vbuckets m i) r mid
      → GoesReading (λ read. go_on read mid.hub.script c) mid new → GoesReading (λ read. act read r.hub.script c) r new
  caught_up_acts mid new waited goes on =
      goes_as (λ read m. go_on read r.hub.script c (catch_up r.hub.script.vbuckets m i)) (λ read. act read r.hub.script c) r new
      (λ read are m f. sym (acts_caught_up known r c i q.demand q.since q.opened m f q.index q.found read waited short_board))
      (goes_then (λ s read m. catch_up s.vbuckets m i) (λ s read. go_on read s c) r mid new (goes_reading (λ m. catch_up r.hub.script.vbuckets m i) r mid goes) on)

  module _ (mid : RunningMachine) (following : IsFollowing r) (goes : Goes (λ m. catch_up r.hub.script.vbuckets m i) r mid) where
    pub caught_up_following : IsFollowing mid
    caught_up_following = (catch_up r.hub.script.vbuckets following.0 i, goes.follows following.0 following.1)

    pub open_after : IsStarted (part_in mid.hub c).opened (λ j. ⊤)
    open_after = still_open known r c i q.demand q.since q.opened following.0 following.1 q.index q.found mid goes

    pub may_after : (v : List ℕ) → IsShortOf c v mid → MayNotYet (state_of mid.hub) (waits (next_command mid.hub c)) v (part_in mid.hub c).opened
    may_after = may_then known r c i q.demand q.since q.opened following.0 following.1 q.index q.found mid goes
