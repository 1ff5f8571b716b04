-- The building of a client's indexes: it ends, or the first of those that lag is caught up.
use Rattle.std.proofs.Common.{◌≡◌, ◌≢◌, ℕ, true, ◌==◌, List, [], ◌∷◌, length, refl, sym, ap, ◌∙◌, subst, inl, inr, arith}
use Rattle.std.specs.Prelude.{⊤}
use Rattle.std.specs.List.{AllByRecursion, list_any}
use Rattle.std.proofs.lemmas.Bool.{or_cases, or_left, or_right, true≢false}
use Rattle.std.proofs.lemmas.Bool.Decides.{nat_tests}
use Rattle.seq_vector.specs.Vectors.{IsCovered, covers}
use Rattle.scan_history.specs.declared.script.Script.{Script}
use Rattle.scan_history.specs.declared.why.Why.TheVariants.{Plain}
use Rattle.scan_history.specs.Events.{online, refuse}
use Rattle.scan_history.specs.First.{command_at}
use Rattle.scan_history.specs.Fold.{Opened, nothing, work, started, picked, State, state_after}
use Rattle.scan_history.specs.Legal.{MayGoOnline, IsDropped, MayFollow, live_among, waits}
use Rattle.scan_history.specs.Readings.{Read}
use Rattle.scan_history.specs.Refusals as code
use Rattle.gsi_hub.specs.declared.went_online.WentOnline.{WentOnline}
use Rattle.gsi_hub.specs.declared.went_online.WentOnline.TheVariants.{Online, NotCovered, Dropped}
use Rattle.gsi_hub.specs.Outcomes.{IsLeastThatLags, IsOnline}
use Rattle.gsi_hub.specs.Past.{Past, state_of, part_in, IsAsBefore}
use Rattle.gsi_hub.specs.Stages.{OnWork}
use Rattle.gsi_sched.specs.Machine.{Machine, now_in}
use Rattle.gsi_sched.specs.ClientActions.{awaited, awaited_by}
use Rattle.gsi_sched.specs.inner.Known.{Known}
use Rattle.gsi_sched.specs.inner.Following.{Follows}
use Rattle.gsi_sched.specs.inner.ClientTurns.{IsWork, IsBuildingFor, HasComeNext, IsStill, IsFirstOf, IsFirstAwaited, AwaitsNone}
use Rattle.gsi_sched.specs.declared.machine.RunningMachine.{RunningMachine}
use Rattle.gsi_sched.proofs.Answers.{IsSilent}
use Rattle.gsi_sched.proofs.NextEvents.{holds_of_any}
use Rattle.gsi_sched.proofs.FollowedParts.{same_state, follows_still}
use Rattle.gsi_sched.proofs.ComingNext.{IsBesideHub, comes_next}
use Rattle.gsi_sched.proofs.AwaitedIndexes.{waits_for_none, waits_for_least}

-- ---- what is open

pub record Builds (o : Opened) : Type 0 where
  pub numbers : List ℕ
  pub since : List ℕ
  pub is : o ≡ work numbers since

pub builds : (o : Opened) → IsWork o → Builds o
builds (work numbers since) is = record { numbers = numbers; since = since; is = refl }
builds nothing is = absurd is
builds (started i demand since) is = absurd is
builds (picked i at) is = absurd is

pub on_any_work : (o : Opened) → IsWork o → OnWork o (λ indexes high. ⊤)
on_any_work (work numbers since) is = tt
on_any_work nothing is = absurd is
on_any_work (started i demand since) is = absurd is
on_any_work (picked i at) is = absurd is

-- the other order of the test
turned_about : (i : ℕ) (is : List ℕ) → list_any (λ j. j == i) is ≡ true → list_any (λ j. i == j) is ≡ true
turned_about i [] has = has
turned_about i (j ∷ js) has = elim (or_cases (j == i) (list_any (λ j. j == i) js) has) [
  | inl here ↦ or_left (i == j) (list_any (λ j. i == j) js) (grind (arith, nat_tests, here))
  | inr there ↦ or_right (i == j) (list_any (λ j. i == j) js) (turned_about i js there)
]

-- ---- its end

module _ (known : Known) (old new : RunningMachine) (c : ℕ) (beside : IsBesideHub old new) (mid : Past) (before : IsAsBefore old.hub mid) (building : IsBuildingFor old.hub c)
    (o : WentOnline) (went : OnWork (part_in mid c).opened (λ indexes high. IsOnline c indexes high mid o new.hub)) where
  abbrev script : Script
  script = old.hub.script

  abbrev n : ℕ
  n = script.vbuckets

  mid_state : state_of mid ≡ state_of old.hub
  mid_state = ap (λ (script : Script). state_after script.vbuckets mid.events) before.script ∙ ap (state_after n) before.events

  its : Builds (part_in old.hub c).opened
  its = builds (part_in old.hub c).opened building

  abbrev numbers : List ℕ
  numbers = its.numbers

  abbrev since : List ℕ
  since = its.since

  open_in : (t : State) → state_of old.hub ≡ t → (t.client c).opened ≡ work numbers since
  open_in t same = ap (λ (u : State). (u.client c).opened) (sym same) ∙ its.is

  went_so : IsOnline c numbers since mid o new.hub
  went_so =
      subst (λ o'. OnWork o' (λ indexes high. IsOnline c indexes high mid o new.hub)) (open_in (state_of mid) (sym mid_state)) went

  module _ (m : Machine) (f : Follows m old) where
    abbrev s : State
    s = now_in n m

    hub_state : state_of old.hub ≡ s
    hub_state = same_state m old f

    to_s : state_of mid ≡ s
    to_s = mid_state ∙ hub_state

    opened : (s.client c).opened ≡ work numbers since
    opened = open_in s hub_state

    unawaited : ((i : ℕ) → list_any (λ j. i == j) (live_among numbers s) ≡ true → covers (s.published i) since ≡ true) → (read : List ℕ → Read) → awaited_by read script c m ≡ []
    unawaited covered read =
        let holds = known.below.consistent script m.events f.runs.legal in
        ap (awaited (waits (command_at script c (s.client c).next)) s) opened ∙ waits_for_none (length s.defs) s numbers since holds.live covered

    went_online : IsOnline c numbers since mid Online new.hub → (k : ℕ) → (k ≡ (s.client c).next) → (read : List ℕ → Read) → MayFollow read script s (online c k (live_among numbers (state_of mid)))
    went_online it k next read =
        subst (λ (t : State). MayFollow read script s (online c k (live_among numbers t))) (sym to_s) (
          next,
          subst (MayGoOnline s (live_among numbers s)) (sym opened) (
            refl,
            subst (λ (t : State). live_among numbers t ≢ []) to_s it.0,
            subst (λ (t : State). AllByRecursion (λ i. IsCovered since (t.published i)) (live_among numbers t)) to_s it.1,
          ),
        )

    all_covered : IsOnline c numbers since mid Online new.hub → (i : ℕ) → list_any (λ j. i == j) (live_among numbers s) ≡ true → covers (s.published i) since ≡ true
    all_covered it i has =
        (known.below.tells (s.published i) since).1
        (holds_of_any (λ i. IsCovered since (s.published i)) i (live_among numbers s)
        (subst (λ (t : State). AllByRecursion (λ i. IsCovered since (t.published i)) (live_among numbers t)) to_s it.1) has)

    was_dropped : live_among numbers (state_of mid) ≡ [] → (k : ℕ) → (k ≡ (s.client c).next) → (read : List ℕ → Read) → MayFollow read script s (refuse c k code.dropped Plain)
    was_dropped none k next read =
        inr (refl, refl, (next, subst (IsDropped s) (sym opened) (subst (λ (t : State). live_among numbers t ≡ []) to_s none)))

    none_live : live_among numbers (state_of mid) ≡ [] → (i : ℕ) → list_any (λ j. i == j) (live_among numbers s) ≡ true → covers (s.published i) since ≡ true
    none_live none i has =
        absurd (true≢false (sym has ∙ ap (list_any (λ j. i == j)) (subst (λ (t : State). live_among numbers t ≡ []) to_s none)))

    first_lags : (i : ℕ) → IsLeastThatLags (state_of mid) since (live_among numbers (state_of mid)) i → (read : List ℕ → Read) → IsFirstOf i (awaited_by read script c m)
    first_lags i least read =
        let holds = known.below.consistent script m.events f.runs.legal in
        let it : IsLeastThatLags s since (live_among numbers s) i = subst (λ (t : State). IsLeastThatLags t since (live_among numbers t) i) to_s least in
        subst (λ o. IsFirstOf i (awaited (waits (command_at script c (s.client c).next)) s o)) (sym opened)
        (waits_for_least known.below (length s.defs) s numbers since i holds.live (turned_about i (live_among numbers s) it.one) it.lags it.least)

  next_in : (m : Machine) → Follows m old → (part_in mid c).next ≡ ((now_in n m).client c).next
  next_in m f = ap (λ (t : State). (t.client c).next) (mid_state ∙ same_state m old f)

  -- it ended
  abbrev Ended : WentOnline → Type 0
  Ended (NotCovered i) = ⊤
  Ended _ = HasComeNext c old new × AwaitsNone c old

  ended_so : (o : WentOnline) → IsOnline c numbers since mid o new.hub → Ended o
  ended_so Online it = (
    comes_next known old new c beside mid before (λ e. e ≡ online c (part_in mid c).next (live_among numbers (state_of mid))) it.2
        (subst IsSilent (sym it.2.such) tt)
        (λ read are m f next. subst (MayFollow read script (now_in n m)) (sym it.2.such) (went_online m f it (part_in mid c).next (next_in m f) read)),
    λ read are m f. unawaited m f (all_covered m f it) read,
  )
  ended_so Dropped it = (
    comes_next known old new c beside mid before (λ e. e ≡ refuse c (part_in mid c).next code.dropped Plain) it.1
        (subst IsSilent (sym it.1.such) tt)
        (λ read are m f next. subst (MayFollow read script (now_in n m)) (sym it.1.such) (was_dropped m f it.0 (part_in mid c).next (next_in m f) read)),
    λ read are m f. unawaited m f (none_live m f it.0) read,
  )
  ended_so (NotCovered i) it = tt

  pub ended : Ended o
  ended = ended_so o went_so

  ended_unless : (o : WentOnline) → Ended o → ((i : ℕ) → o ≢ NotCovered i) → HasComeNext c old new × AwaitsNone c old
  ended_unless Online so not_lags = so
  ended_unless Dropped so not_lags = so
  ended_unless (NotCovered i) so not_lags = absurd (not_lags i refl)

  pub has_ended : ((i : ℕ) → o ≢ NotCovered i) → HasComeNext c old new × AwaitsNone c old
  has_ended not_lags = ended_unless o ended not_lags

  -- or an index lags
  pub lags : (i : ℕ) → o ≡ NotCovered i → IsFirstAwaited c i old × IsStill old new
  lags i is =
      let it : IsOnline c numbers since mid (NotCovered i) new.hub = subst (λ o. IsOnline c numbers since mid o new.hub) is went_so in
      let same_script : new.hub.script ≡ script = ap (λ (p : Past). p.script) it.1 ∙ before.script in
      let same_events : new.hub.events ≡ old.hub.events = ap (λ (p : Past). p.events) it.1 ∙ before.events in (
        λ read are m f. first_lags m f i it.0 read,
        record {
          script = same_script;
          follows = λ m f.
              follows_still m old new (record { script = beside.script; hub_script = same_script; hub_events = same_events; answers = beside.answers }) beside.streams beside.slots f;
        },
      )
