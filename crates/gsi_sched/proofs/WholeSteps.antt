-- The whole replay, step by step.
use Rattle.std.proofs.Common.{◌≡◌, ℕ, zero, suc, ◌+◌, ◌*◌, ◌<◌, Bool, true, false, cond, List, [], ◌∷◌, ◌++◌, length, map, fold, take, slice_get, Option, Some, None, refl, sym, ap, ◌∙◌, subst, add-one, append-nil, arith}
use Rattle.std.specs.List.{AllByRecursion, filter}
use Rattle.std.proofs.lemmas.Bool.{cond-true, cond-false}
use Rattle.std.proofs.lemmas.List.{map-append}
use Rattle.std.proofs.lemmas.List.Elements.{filter-append}
use Rattle.std.proofs.lemmas.Option.{same_Some}
use Rattle.index_def.specs.LiveIndexes.{Live, numbered}
use Rattle.scan_history.specs.declared.script.Script.{Script}
use Rattle.scan_history.specs.declared.turn.Turn.{Turn}
use Rattle.scan_history.specs.First.{commands_of, is_online}
use Rattle.scan_history.specs.Fold.{State}
use Rattle.scan_history.specs.Legal.{IsLegal}
use Rattle.scan_history.specs.Readings.{AreRead}
use Rattle.gsi_hub.specs.Past.{state_of}
use Rattle.gsi_sched.specs.Machine.{Machine, first_machine, now_in}
use Rattle.gsi_sched.specs.ClientActions.{catch_up, caught_up, act}
use Rattle.gsi_sched.specs.Running.{IsWorking}
use Rattle.gsi_sched.specs.Replay.{after_turn, after_actions, after_clients, after_schedule, at_the_end, history_of}
use Rattle.gsi_sched.specs.declared.machine.RunningMachine.{RunningMachine}
use Rattle.gsi_sched.specs.inner.Known.{Known}
use Rattle.gsi_sched.specs.inner.SlotLists.{online_number}
use Rattle.gsi_sched.specs.inner.Following.{Follows, IsFollowing, Goes, GoesReading, IsWorkingIn}
use Rattle.gsi_sched.proofs.Served.{each_there}
use Rattle.gsi_sched.proofs.LiveIndexes.{online_is_built, each_numbered}
use Rattle.gsi_sched.proofs.CatchUps.{caught_one}
use Rattle.gsi_sched.proofs.Followed.{TextReading, same_state, goes_then, goes_as, goes_reading}

-- ---- lists, one element more

take_suc : {A : Type 0} (xs : List A) (i : ℕ) (x : A) → slice_get xs i ≡ Some x → take (suc i) xs ≡ take i xs ++ x ∷ []
take_suc [] i x is = absurd cc
take_suc (y ∷ ys) zero x is = cc
take_suc (y ∷ ys) (suc i) x is = ap (λ rest. y ∷ rest) (take_suc ys i x is)

pub take_next : {A : Type 0} (xs : List A) (i : ℕ) (x : A) → slice_get xs i ≡ Some x → take (i + 1) xs ≡ take i xs ++ x ∷ []
take_next xs i x is = ap (λ k. take k xs) (add-one i) ∙ take_suc xs i x is

pub there_below : {A : Type 0} (xs : List A) (i : ℕ) → i < length xs → (x : A) × (slice_get xs i ≡ Some x)
there_below [] i low = absurd (omega (arith, low))
there_below (x ∷ xs) zero low = (x, refl)
there_below (x ∷ xs) (suc i) low = there_below xs i (omega (arith, low))

fold-push : {A B : Type 0} (f : B → A → B) (b : B) (xs : List A) (x : A) → fold f b (xs ++ x ∷ []) ≡ f (fold f b xs) x
fold-push f b [] x = refl
fold-push f b (y ∷ ys) x = fold-push f (f b y) ys x

pub fold_next : {A B : Type 0} (f : B → A → B) (b : B) (xs : List A) (i : ℕ) (x : A) → slice_get xs i ≡ Some x → fold f b (take (i + 1) xs) ≡ f (fold f b (take i xs)) x
fold_next f b xs i x is = ap (fold f b) (take_next xs i x is) ∙ fold-push f b (take i xs) x

-- ---- the lines of the schedule

pub turns_next : (turns : List Turn) (i : ℕ) (turn : Turn) (old mid new : RunningMachine) → slice_get turns i ≡ Some turn
    → GoesReading (λ read m. fold (after_turn read old.hub.script) m (take i turns)) old mid
    → GoesReading (λ read m. after_turn read mid.hub.script m turn) mid new
    → GoesReading (λ read m. fold (after_turn read old.hub.script) m (take (i + 1) turns)) old new
turns_next turns i turn old mid new is goes on =
    goes_as (λ read m. after_turn read old.hub.script (fold (after_turn read old.hub.script) m (take i turns)) turn)
    (λ read m. fold (after_turn read old.hub.script) m (take (i + 1) turns)) old new
    (λ read are m f. sym (fold_next (after_turn read old.hub.script) m turns i turn is))
    (goes_then (λ s read m. fold (after_turn read s) m (take i turns)) (λ s read m. after_turn read s m turn) old mid new goes on)

-- ---- the actions of a client

actions_then : (read : TextReading) (script : Script) (c i : ℕ) (m : Machine) → after_actions read script c (suc i) m ≡ act read script c (after_actions read script c i m)
actions_then read script c zero m = refl
actions_then read script c (suc i) m = actions_then read script c i (act read script c m)

pub actions_next : (c i : ℕ) (old mid new : RunningMachine) → GoesReading (λ read. after_actions read old.hub.script c i) old mid
    → GoesReading (λ read. act read mid.hub.script c) mid new → GoesReading (λ read. after_actions read old.hub.script c (i + 1)) old new
actions_next c i old mid new goes on =
    goes_as (λ read m. act read old.hub.script c (after_actions read old.hub.script c i m)) (λ read. after_actions read old.hub.script c (i + 1)) old new
    (λ read are m f. sym (ap (λ k. after_actions read old.hub.script c k m) (add-one i) ∙ actions_then read old.hub.script c i m))
    (goes_then (λ s read. after_actions read s c i) (λ s read. act read s c) old mid new goes on)

pub clients_next : (script : Script) (c actions : ℕ) (old mid new : RunningMachine) → script ≡ old.hub.script → actions ≡ 3 * length (commands_of script c)
    → GoesReading (λ read. after_clients read script c) old mid → GoesReading (λ read. after_actions read mid.hub.script c actions) mid new
    → GoesReading (λ read. after_clients read script (c + 1)) old new
clients_next script c actions old mid new same all goes on =
    goes_as (λ read m. after_actions read old.hub.script c actions (after_clients read script c m)) (λ read. after_clients read script (c + 1)) old new
    (λ read are m f.
    ap (λ (s : Script). after_actions read s c actions (after_clients read script c m)) (sym same)
    ∙ ap (λ k. after_actions read script c k (after_clients read script c m)) all
    ∙ ap (λ k. after_clients read script k m) (sym (add-one c)))
    (goes_then (λ s read. after_clients read script c) (λ s read. after_actions read s c actions) old mid new goes on)

-- ---- the online indexes

abbrev pub has_gone_online : Live → Bool
has_gone_online index = is_online index.state

abbrev pub its_number : Live → ℕ
its_number index = index.number

abbrev pub online_numbers : List Live → List ℕ
online_numbers live = map its_number (filter has_gone_online live)

numbers_push : (live : List Live) (index : Live) → online_numbers (live ++ index ∷ []) ≡ online_numbers live ++ online_numbers (index ∷ [])
numbers_push live index = ap (map its_number) (filter-append has_gone_online live (index ∷ [])) ∙ map-append its_number (filter has_gone_online live) (filter has_gone_online (index ∷ []))

-- an index that is online is one more
pub record IsOnlineAt (live : List Live) (at i : ℕ) : Type 0 where
  pub index : Live
  pub there : slice_get live at ≡ Some index
  pub online : is_online index.state ≡ true
  pub number : index.number ≡ i

pub online_there : (live : List Live) (at i : ℕ) → online_number (slice_get live at) ≡ Some i → IsOnlineAt live at i
online_there live at i is = by (slice_get live at) refl is
  where
    by_state : (index : Live) (b : Bool) → slice_get live at ≡ Some index → is_online index.state ≡ b → cond b (Some index.number) None ≡ Some i → IsOnlineAt live at i
    by_state index true there holds_so is = record { index = index; there = there; online = holds_so; number = same_Some index.number i is }
    by_state index false there fails is = absurd cc

    by : (o : Option Live) → slice_get live at ≡ o → online_number o ≡ Some i → IsOnlineAt live at i
    by None none is = absurd cc
    by (Some index) there is = by_state index (is_online index.state) there refl is

pub numbers_next : (live : List Live) (at i : ℕ) → IsOnlineAt live at i → online_numbers (take (at + 1) live) ≡ online_numbers (take at live) ++ i ∷ []
numbers_next live at i is =
    ap online_numbers (take_next live at is.index is.there)
    ∙ numbers_push (take at live) is.index
    ∙ ap (λ more. online_numbers (take at live) ++ map its_number more) (cond-true (has_gone_online is.index) (is.index ∷ []) [] is.online)
    ∙ ap (λ j. online_numbers (take at live) ++ j ∷ []) is.number

-- another is not
pub numbers_same : (live : List Live) (at : ℕ) (index : Live) → slice_get live at ≡ Some index → online_number (slice_get live at) ≡ None
    → online_numbers (take (at + 1) live) ≡ online_numbers (take at live)
numbers_same live at index there is =
    ap online_numbers (take_next live at index there)
    ∙ numbers_push (take at live) index
    ∙ ap (λ more. online_numbers (take at live) ++ map its_number more) (cond-false (has_gone_online index) (index ∷ []) [] (off (is_online index.state) (sym (ap online_number there) ∙ is)))
    ∙ append-nil (online_numbers (take at live))
  where
    off : (b : Bool) → cond b (Some index.number) None ≡ None → b ≡ false
    off true is = absurd cc
    off false is = refl

-- so far the online ones of the first live indexes are caught up
pub record AreCaughtUp (at : ℕ) (old new : RunningMachine) : Type 0 where
  pub following : IsFollowing new
  pub live : (state_of new.hub).live ≡ (state_of old.hub).live
  pub goes : GoesReading (λ read. caught_up old.hub.script.vbuckets (online_numbers (take at (state_of old.hub).live))) old new

pub none_caught_up : (old : RunningMachine) → IsFollowing old → AreCaughtUp 0 old old
none_caught_up old following = record { following = following; live = refl; goes = record { script = refl; follows = λ read are m f. f } }

module _ (known : Known) (old mid : RunningMachine) (at i : ℕ) (so_far : AreCaughtUp at old mid) where
  abbrev live : List Live
  live = (state_of old.hub).live

  -- the next one works
  pub online_works : IsOnlineAt (state_of mid.hub).live at i → IsWorkingIn mid i
  online_works is =
      let m = so_far.following.0 in
      let f = so_far.following.1 in
      let s = state_of mid.hub in
      let holds = known.below.consistent mid.hub.script m.events f.runs.legal in
      let all : AllByRecursion (λ (x : Live). numbered x.number s.live ≡ Some x) s.live =
      subst (λ (t : State). AllByRecursion (λ (x : Live). numbered x.number t.live ≡ Some x) t.live) (sym (same_state m mid f))
      (each_numbered 0 (length (now_in mid.hub.script.vbuckets m).defs) (now_in mid.hub.script.vbuckets m).live holds.live) in
      let found = each_there (λ (x : Live). numbered x.number s.live ≡ Some x) s.live at is.index all is.there in
      (is.index, subst (λ j. numbered j s.live ≡ Some is.index) is.number found, online_is_built is.index.state is.online)

  module _ (new : RunningMachine) (is : IsOnlineAt (state_of mid.hub).live at i) (goes : Goes (λ m. catch_up mid.hub.script.vbuckets m i) mid new) where
    -- catching up leaves the live indexes
    live_still : (state_of new.hub).live ≡ (state_of mid.hub).live
    live_still =
        let m = so_far.following.0 in
        let f = so_far.following.1 in
        let n = mid.hub.script.vbuckets in
        let s = state_of mid.hub in
        let works = online_works is in
        let works_in = subst (λ (t : State). IsWorking t.live i) (same_state m mid f) works in
        let one = caught_one known.below mid.hub.script known.some_read.0 known.some_read.1 m i f.runs works_in in
        let then = catch_up n m i in
        ap (λ (t : State). t.live) (same_state then new (goes.follows m f) ∙ ap (λ (x : Script). now_in x.vbuckets then) goes.script)
        ∙ one.1.live ∙ ap (λ (t : State). t.live) (sym (same_state m mid f))

    pub one_more_caught_up : AreCaughtUp (at + 1) old new
    one_more_caught_up =
        let numbers : online_numbers (take (at + 1) live) ≡ online_numbers (take at live) ++ i ∷ [] =
        numbers_next live at i (subst (λ live. IsOnlineAt live at i) so_far.live is) in
        record {
          following = (catch_up mid.hub.script.vbuckets so_far.following.0 i, goes.follows so_far.following.0 so_far.following.1);
          live = live_still ∙ so_far.live;
          goes = goes_as (λ read m. catch_up old.hub.script.vbuckets (caught_up old.hub.script.vbuckets (online_numbers (take at live)) m) i)
              (λ read. caught_up old.hub.script.vbuckets (online_numbers (take (at + 1) live))) old new
              (λ read are m f.
              sym (ap (λ is. caught_up old.hub.script.vbuckets is m) numbers ∙ fold-push (catch_up old.hub.script.vbuckets) m (online_numbers (take at live)) i))
              (goes_then (λ s read. caught_up s.vbuckets (online_numbers (take at live))) (λ s read m. catch_up s.vbuckets m i) old mid new so_far.goes
              (goes_reading (λ m. catch_up mid.hub.script.vbuckets m i) mid new goes));
        }

pub passed_over : (old mid : RunningMachine) (at : ℕ) (index : Live) → slice_get (state_of mid.hub).live at ≡ Some index → online_number (slice_get (state_of mid.hub).live at) ≡ None
    → AreCaughtUp at old mid → AreCaughtUp (at + 1) old mid
passed_over old mid at index there is so_far = record {
  following = so_far.following;
  live = so_far.live;
  goes =
      let live = (state_of old.hub).live in
      let same : online_numbers (take (at + 1) live) ≡ online_numbers (take at live) =
      subst (λ live. online_numbers (take (at + 1) live) ≡ online_numbers (take at live)) so_far.live (numbers_same (state_of mid.hub).live at index there is) in
      subst (λ is. GoesReading (λ read. caught_up old.hub.script.vbuckets is) old mid) (sym same) so_far.goes;
}

pub all_caught_up : (old new : RunningMachine) (at : ℕ) → take at (state_of old.hub).live ≡ (state_of old.hub).live → AreCaughtUp at old new
    → GoesReading (λ read. at_the_end read old.hub.script) old new
all_caught_up old new at all done =
    goes_as (λ read. caught_up old.hub.script.vbuckets (online_numbers (take at (state_of old.hub).live))) (λ read. at_the_end read old.hub.script) old new
    (λ read are m f.
    ap (λ live. caught_up old.hub.script.vbuckets (online_numbers live) m) (all ∙ ap (λ (s : State). s.live) (same_state m old f)))
    done.goes

-- ---- all of it

-- the last machine of a script's replay is followed
pub record IsWhole (script : Script) (ended : RunningMachine) : Type 0 where
  pub same : ended.hub.script ≡ script
  pub follows : (read : TextReading) → AreRead read → Follows (at_the_end read script (after_clients read script script.clients (after_schedule read script))) ended

whole_by : (script : Script) (first turned acted ended : RunningMachine) → first.hub.script ≡ script → Follows (first_machine script.vbuckets) first
    → GoesReading (λ read m. fold (after_turn read first.hub.script) m script.schedule) first turned
    → GoesReading (λ read. after_clients read script script.clients) turned acted
    → GoesReading (λ read. at_the_end read acted.hub.script) acted ended → IsWhole script ended
whole_by script first turned acted ended same starts turns clients indexes =
    let acted_script : acted.hub.script ≡ script = clients.script ∙ turns.script ∙ same in
    record {
      same = indexes.script ∙ acted_script;
      follows = λ read are.
          let one = turns.follows read are (first_machine script.vbuckets) starts in
          let two = clients.follows read are (fold (after_turn read first.hub.script) (first_machine script.vbuckets) script.schedule) one in
          let three = indexes.follows read are (after_clients read script script.clients (fold (after_turn read first.hub.script) (first_machine script.vbuckets) script.schedule)) two in
          let schedule : fold (after_turn read first.hub.script) (first_machine script.vbuckets) script.schedule ≡ after_schedule read script =
          ap (λ s. fold (after_turn read s) (first_machine script.vbuckets) script.schedule) same in
          subst (λ s. Follows (at_the_end read s (after_clients read script script.clients (after_schedule read script))) ended) acted_script
          (subst (λ m. Follows (at_the_end read acted.hub.script (after_clients read script script.clients m)) ended) schedule three);
    }

-- the same where the script was shared
pub whole_of : (script clone again : Script) (schedule : List Turn) (first turned acted ended : RunningMachine) → clone ≡ script → again ≡ script → schedule ≡ script.schedule
    → first.hub.script ≡ clone → Follows (first_machine clone.vbuckets) first
    → GoesReading (λ read m. fold (after_turn read first.hub.script) m schedule) first turned
    → GoesReading (λ read. after_clients read again again.clients) turned acted
    → GoesReading (λ read. at_the_end read acted.hub.script) acted ended → IsWhole script ended
whole_of script clone again schedule first turned acted ended is_clone is_again is_schedule same starts turns clients indexes =
    whole_by script first turned acted ended (same ∙ is_clone) (subst (λ (s : Script). Follows (first_machine s.vbuckets) first) is_clone starts)
    (subst (λ lines. GoesReading (λ read m. fold (after_turn read first.hub.script) m lines) first turned) is_schedule turns)
    (subst (λ (s : Script). GoesReading (λ read. after_clients read s s.clients) turned acted) is_again clients) indexes

pub whole_events : (script : Script) (ended : RunningMachine) → IsWhole script ended → (read : TextReading) → AreRead read → ended.hub.events ≡ history_of read script
unfolding history_of
whole_events script ended whole read are = (whole.follows read are).events

pub whole_legal : (script : Script) (ended : RunningMachine) → IsWhole script ended → (read : TextReading) → AreRead read → IsLegal script ended.hub.events
whole_legal script ended whole read are =
    let f = whole.follows read are in
    subst (λ s. IsLegal s ended.hub.events) whole.same (subst (IsLegal ended.hub.script) (sym f.events) f.runs.legal)
