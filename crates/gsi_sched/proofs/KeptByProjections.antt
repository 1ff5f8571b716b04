-- What a stream gives is sent to slots: what the code does follows the machine.
use Rattle.std.proofs.Common.{◌≡◌, ℕ, ◌<◌, ◌==◌, false, List, length, Option, Some, None, option_map, refl, sym, ap, ◌∙◌, subst, arith}
use Rattle.std.specs.Prelude.{IfSome, IsSomeAnd}
use Rattle.std.specs.Arc.{arc_value}
use Rattle.std.specs.Option.{option_map_or}
use Rattle.std.specs.FinMap as finmap
use mathlib.Core.Path.{fun_ext}
use Rattle.std.proofs.lemmas.Bool.{cond_both}
use Rattle.std.proofs.lemmas.Option.{same_Some}
use Rattle.seq_vector.specs.Vectors.{entry, IsCovered}
use Rattle.vb_store.specs.Accepted.{Accepted}
use Rattle.vb_store.specs.declared.mutation.Mutation.{Mutation}
use Rattle.vb_store.specs.Mutations.{high_of}
use Rattle.index_def.specs.LiveIndexes.{Live, AreNumbered, numbered}
use Rattle.dcp_stream.specs.declared.piece.Piece.{Piece}
use Rattle.dcp_stream.specs.Pieces.{Marked, PieceStands, bounds_of, piece_of, marker_start, next_piece, after, after_any}
use Rattle.dcp_stream.specs.Streams.{Stream, Bounds, next_bounds, passed}
use Rattle.scan_history.specs.declared.script.Script.{Script}
use Rattle.scan_history.specs.First.{is_online}
use Rattle.scan_history.specs.Fold.{State}
use Rattle.gsi_hub.specs.Past.{state_of}
use Rattle.gsi_sched.specs.Machine.{Machine, put_at, now_in, high_in, with_initial, sent}
use Rattle.gsi_sched.specs.ScheduleLines.{is_online_in, given, project, given_to, project_to}
use Rattle.gsi_sched.specs.Running.{IsFlowing, IsWorking, IsRunning}
use Rattle.gsi_sched.specs.Slots.{with_piece, IsKept}
use Rattle.gsi_sched.specs.inner.Below.{Below}
use Rattle.gsi_sched.specs.inner.Stood.{Stood}
use Rattle.gsi_sched.specs.inner.SlotLists.{with_slot, IfNumbered, HasSlots, projected_as, sent_online}
use Rattle.gsi_sched.specs.inner.StreamSteps.{IsReachedBy, OnInitial}
use Rattle.gsi_sched.specs.inner.Following.{initial_numbers, Keeps, Follows, IsFollowing, Goes, IsBuildingIn}
use Rattle.gsi_sched.specs.declared.machine.RunningMachine.{RunningMachine}
use Rattle.gsi_sched.proofs.Served.{same_number}
use Rattle.gsi_sched.proofs.KeptSlots.{sends}
use Rattle.gsi_sched.proofs.KeptPlaces.{slots_there, maint_changed, initial_changed, slot_changed, slots_sent, IsBeside, state_followed, follows_on, building_there, building_works}
use Rattle.gsi_sched.proofs.Turns.{project_keeps, project_to_keeps}
use Rattle.gsi_sched.proofs.KeptByLines.{on_some, projected_stands, initial_there, maint_flows, initial_flows}

-- ---- what the code may ask for

module _ (r : RunningMachine) (following : IsFollowing r) where
  -- of at most how many mutations a piece is
  pub batch_is : (script : Script) → script ≡ arc_value r.script → script.batch ≡ r.hub.script.batch
  batch_is script is = ap (λ (s : Script). s.batch) (is ∙ following.1.script)

  pub some_batch : (script : Script) → script ≡ arc_value r.script → 0 < script.batch
  some_batch script is = omega (arith, following.1.sound.batch.0, batch_is script is)

  -- each building or online index of the hub has a slot
  pub slots_in_hub : HasSlots (state_of r.hub) r.slots.items
  slots_in_hub =
      let m = following.0 in
      let n = r.hub.script.vbuckets in
      subst (λ (s : State). HasSlots s r.slots.items) (sym (state_followed m r following.1)) (slots_there n (now_in n m) m r following.1.keeps)

  -- its live indexes are numbered
  pub live_numbered : Below → AreNumbered 0 (length (state_of r.hub).defs) (state_of r.hub).live
  live_numbered below =
      let m = following.0 in
      subst (λ (s : State). AreNumbered 0 (length s.defs) s.live) (sym (state_followed m r following.1)) (below.consistent r.hub.script m.events following.1.runs.legal).live

-- ---- what a stream gives

next_numbers : (n : ℕ) (log : List Mutation) (most vb : ℕ) (x : Marked) → option_map bounds_of (next_piece n log most vb x) ≡ next_bounds (high_of n log) most vb x.stream
next_numbers n log most vb x = by (next_bounds (high_of n log) most vb x.stream)
  where
    by : (o : Option Bounds) → option_map bounds_of (option_map (piece_of log (marker_start (entry x.stream.at vb) (entry x.stream.ends vb) (entry x.began vb))) o) ≡ o
    by None = refl
    by (Some b) = refl

pub if_some : {A : Type 0} (P : A → Type 0) → ((x : A) → P x) → (o : Option A) → IfSome o P
if_some P all None = tt
if_some P all (Some x) = all x

put_own : {A : Type 0} (i : ℕ) (f : ℕ → A) → put_at i (f i) f ≡ f
put_own i f = fun_ext (λ j. cond_both (j == i) (f i) (f j) (λ a. a ≡ f j) (λ is. ap f (sym (same_number i j is))) (λ other. refl))

module _ (below : Below) (stood : Stood) (r : RunningMachine) (store : Accepted) (vbuckets : store.vbuckets ≡ r.hub.script.vbuckets) (log : store.log ≡ (state_of r.hub).log) where
  abbrev n : ℕ
  n = r.hub.script.vbuckets

  log_followed : (m : Machine) → Follows m r → store.log ≡ (now_in n m).log
  log_followed m follows = log ∙ ap (λ (s : State). s.log) (state_followed m r follows)

  -- what is given of the store, is given of what the machine accepted
  of_store : (P : ℕ → List Mutation → Type 0) (m : Machine) → Follows m r → P store.vbuckets store.log → P n (now_in n m).log
  of_store P m follows is = subst (λ l. P n l) (log_followed m follows) (subst (λ k. P k store.log) vbuckets is)

  to_store : (P : ℕ → List Mutation → Type 0) (m : Machine) → Follows m r → P n (now_in n m).log → P store.vbuckets store.log
  to_store P m follows is = subst (λ k. P k store.log) (sym vbuckets) (subst (λ l. P n l) (sym (log_followed m follows)) is)

  reached_by : (m : Machine) → Follows m r → (x : Marked) → IsFlowing (high_in n m) x.stream → IsReachedBy store x
  reached_by m follows x flows = record {
    size = flows.size ∙ (below.high_size n (now_in n m).log ∙ sym vbuckets);
    reached = to_store (λ k l. IsCovered x.stream.ends (high_of k l)) m follows flows.reached;
  }

  pub maint_reached : IsFollowing r → IsReachedBy store r.streams.maint
  maint_reached following = reached_by following.0 following.1 r.streams.maint (maint_flows below r following.0 following.1)

  pub initial_reached : (i : ℕ) → IsFollowing r → IsBuildingIn r i → OnInitial i (IsReachedBy store) r.streams
  initial_reached i following building =
      on_some (λ x. IsFlowing (high_in n following.0) x.stream) (IsReachedBy store) (reached_by following.0 following.1) (finmap.get r.streams.initial i)
      (initial_flows below r following.0 i following.1 building)

  -- its numbers are the machine's
  numbers_given : (most vb : ℕ) (m : Machine) → Follows m r → (x : Marked) (s : Stream) → x.stream ≡ s → (o : Option Piece) → o ≡ next_piece store.vbuckets store.log most vb x
      → next_bounds (high_in n m) most vb s ≡ option_map bounds_of o
  numbers_given most vb m follows x s same o is =
      sym (ap (option_map bounds_of) (of_store (λ k l. o ≡ next_piece k l most vb x) m follows is) ∙ (next_numbers n (now_in n m).log most vb x ∙ ap (next_bounds (high_in n m) most vb) same))

  module _ (t : RunningMachine) (beside : IsBeside r t) where
    -- the piece of the maintenance stream is sent to each online index
    given_kept : (m : Machine) (p : Piece) → Follows m r → PieceStands n (now_in n m).log p → t.streams ≡ record r.streams { maint = after p r.streams.maint }
        → t.slots.items ≡ sent_online (now_in n m).live p r.slots.items → Keeps n (now_in n m) (given n (bounds_of p) m) t
    given_kept m p follows stands streams slots =
        let s = now_in n m in
        let b = bounds_of p in
        let r' : RunningMachine = record r { streams = t.streams } in
        let first : Keeps n s (record m { maint = passed b m.maint }) r' =
        subst (λ x. Keeps n s (record m { maint = x }) r') (ap (passed b) follows.keeps.maint) (maint_changed n s m r follows.keeps r' (after p r.streams.maint) streams refl) in
        slots_sent n s (record m { maint = passed b m.maint }) r' first t (length s.defs) p (is_online_in n m) refl slots (below.consistent r.hub.script m.events follows.runs.legal).live
        (λ i index found. ap (λ o. option_map_or (λ (x : Live). is_online x.state) o false) found)
        (λ i index slot found kept. sends stood n s.log index.def (projected_as i index.def p) b slot (m.worker i) (projected_stands n s.log i index.def p stands) refl kept)

    pub project_goes : (most vb : ℕ) → vb < n → 0 < most → (o : Option Piece) → o ≡ next_piece store.vbuckets store.log most vb r.streams.maint → IfSome o (PieceStands store.vbuckets store.log)
        → t.streams ≡ record r.streams { maint = after_any o r.streams.maint } → t.slots.items ≡ option_map_or (λ p. sent_online (state_of r.hub).live p r.slots.items) o r.slots.items
        → Goes (project n most vb) r t
    project_goes most vb there some o is stands streams slots = record {
      script = ap (λ p. p.script) beside.hub;
      follows = λ m follows.
          let numbers = numbers_given most vb m follows r.streams.maint m.maint follows.keeps.maint o is in
          let step : project n most vb m ≡ option_map_or (λ p. given n (bounds_of p) m) o m = by_numbers m o (next_bounds (high_in n m) most vb m.maint) numbers in
          let runs = project_keeps below r.hub.script m most vb there some follows.runs in
          subst (λ u. Follows u t) (sym step) (by m follows o (subst (IsRunning r.hub.script) step runs) (of_store (λ k l. IfSome o (PieceStands k l)) m follows stands) streams
          (slots ∙ ap (λ (s : State). option_map_or (λ p. sent_online s.live p r.slots.items) o r.slots.items) (state_followed m r follows)));
    }
      where
        by_numbers : (m : Machine) (o : Option Piece) (numbers : Option Bounds) → numbers ≡ option_map bounds_of o
            → option_map_or (λ b. given n b m) numbers m ≡ option_map_or (λ p. given n (bounds_of p) m) o m
        by_numbers m None numbers is = ap (λ x. option_map_or (λ b. given n b m) x m) is
        by_numbers m (Some p) numbers is = ap (λ x. option_map_or (λ b. given n b m) x m) is

        by : (m : Machine) → Follows m r → (o : Option Piece) → IsRunning r.hub.script (option_map_or (λ p. given n (bounds_of p) m) o m) → IfSome o (PieceStands n (now_in n m).log)
            → t.streams ≡ record r.streams { maint = after_any o r.streams.maint } → t.slots.items ≡ option_map_or (λ p. sent_online (now_in n m).live p r.slots.items) o r.slots.items
            → Follows (option_map_or (λ p. given n (bounds_of p) m) o m) t
        by m follows None runs stands streams slots =
            follows_on m m r t beside follows refl runs
            (subst (λ x. Keeps n (now_in n m) (record m { maint = x }) t) follows.keeps.maint (maint_changed n (now_in n m) m r follows.keeps t r.streams.maint streams slots))
        by m follows (Some p) runs stands streams slots =
            follows_on m (given n (bounds_of p) m) r t beside follows refl runs (given_kept m p follows stands streams slots)

    -- the piece of an initial stream is sent to its index
    given_to_kept : (m : Machine) (i : ℕ) (p : Piece) (x : Marked) → Follows m r → PieceStands n (now_in n m).log p → x.stream ≡ m.initial i
        → t.streams ≡ record r.streams { initial = finmap.insert r.streams.initial i (after p x) }
        → IfSome (numbered i (now_in n m).live) (λ index. t.slots.items ≡ with_slot (with_piece (projected_as i index.def p)) i r.slots.items)
        → IsWorking (now_in n m).live i → Keeps n (now_in n m) (given_to n i (bounds_of p) m) t
    given_to_kept m i p x follows stands same streams slots works =
        let s = now_in n m in
        let b = bounds_of p in
        let index = works.0 in
        let r' : RunningMachine = record r { streams = t.streams } in
        let first : Keeps n s (with_initial i (passed b (m.initial i)) m) r' =
        subst (λ y. Keeps n s (with_initial i y m) r') (ap (passed b) same) (initial_changed n s m r follows.keeps r' i (after p x) streams refl) in
        slot_changed n s (with_initial i (passed b (m.initial i)) m) r' first t i (with_piece (projected_as i index.def p)) (sent b (m.worker i)) refl
        (subst (λ o. IfSome o (λ index. t.slots.items ≡ with_slot (with_piece (projected_as i index.def p)) i r.slots.items)) works.1 slots)
        (λ other slot found built kept.
        let it : index ≡ other = same_Some index other (sym works.1 ∙ found) in
        subst (λ (y : Live). IsKept n s.log other.def (with_piece (projected_as i y.def p) slot) (sent b (m.worker i))) (sym it)
        (sends stood n s.log other.def (projected_as i other.def p) b slot (m.worker i) (projected_stands n s.log i other.def p stands) refl kept))
        (λ slot. refl)

    pub project_to_goes : (most vb i : ℕ) → vb < n → 0 < most → IsBuildingIn r i → (o : Option Piece) → OnInitial i (λ x. o ≡ next_piece store.vbuckets store.log most vb x) r.streams
        → IfSome o (PieceStands store.vbuckets store.log) → OnInitial i (λ x. t.streams ≡ record r.streams { initial = finmap.insert r.streams.initial i (after_any o x) }) r.streams
        → IfNumbered (state_of r.hub) i (λ index. t.slots.items ≡ option_map_or (λ p. with_slot (with_piece (projected_as i index.def p)) i r.slots.items) o r.slots.items)
        → Goes (project_to n most vb i) r t
    project_to_goes most vb i there some building o is stands streams slots = record {
      script = ap (λ p. p.script) beside.hub;
      follows = λ m follows.
          on_stream m follows (finmap.get r.streams.initial i) (initial_there r m i follows building) is streams;
    }
      where
        by_numbers : (m : Machine) (o : Option Piece) (numbers : Option Bounds) → numbers ≡ option_map bounds_of o
            → option_map_or (λ b. given_to n i b m) numbers m ≡ option_map_or (λ p. given_to n i (bounds_of p) m) o m
        by_numbers m None numbers is = ap (λ x. option_map_or (λ b. given_to n i b m) x m) is
        by_numbers m (Some p) numbers is = ap (λ x. option_map_or (λ b. given_to n i b m) x m) is

        by : (m : Machine) → Follows m r → (x : Marked) → x.stream ≡ m.initial i → (o : Option Piece) → IsRunning r.hub.script (option_map_or (λ p. given_to n i (bounds_of p) m) o m)
            → IfSome o (PieceStands n (now_in n m).log) → t.streams ≡ record r.streams { initial = finmap.insert r.streams.initial i (after_any o x) }
            → IfSome (numbered i (now_in n m).live) (λ index. t.slots.items ≡ option_map_or (λ p. with_slot (with_piece (projected_as i index.def p)) i r.slots.items) o r.slots.items)
            → IsWorking (now_in n m).live i → Follows (option_map_or (λ p. given_to n i (bounds_of p) m) o m) t
        by m follows x same None runs stands streams slots works =
            let s = now_in n m in
            let still : t.slots.items ≡ r.slots.items = subst (λ o. IfSome o (λ (index : Live). t.slots.items ≡ r.slots.items)) works.1 slots in
            follows_on m m r t beside follows refl runs
            (subst (λ (f : ℕ → Stream). Keeps n s (record m { initial = f }) t) (put_own i m.initial)
            (subst (λ y. Keeps n s (with_initial i y m) t) same (initial_changed n s m r follows.keeps t i x streams still)))
        by m follows x same (Some p) runs stands streams slots works =
            follows_on m (given_to n i (bounds_of p) m) r t beside follows refl runs (given_to_kept m i p x follows stands same streams slots works)

        on_stream : (m : Machine) → Follows m r → (found : Option Marked) → initial_numbers found ≡ Some (m.initial i) → IsSomeAnd found (λ x. o ≡ next_piece store.vbuckets store.log most vb x)
            → IsSomeAnd found (λ x. t.streams ≡ record r.streams { initial = finmap.insert r.streams.initial i (after_any o x) }) → Follows (project_to n most vb i m) t
        on_stream m follows None same is streams = absurd is
        on_stream m follows (Some x) same is streams =
            let s = now_in n m in
            let own : x.stream ≡ m.initial i = same_Some x.stream (m.initial i) same in
            let works = building_works s i (building_there m r i follows building) in
            let numbers = numbers_given most vb m follows x (m.initial i) own o is in
            let step : project_to n most vb i m ≡ option_map_or (λ p. given_to n i (bounds_of p) m) o m = by_numbers m o (next_bounds (high_in n m) most vb (m.initial i)) numbers in
            let runs = project_to_keeps below r.hub.script m most vb i works there some follows.runs in
            subst (λ u. Follows u t) (sym step) (by m follows x own o (subst (IsRunning r.hub.script) step runs) (of_store (λ k l. IfSome o (PieceStands k l)) m follows stands) streams
            (subst (λ (s : State). IfSome (numbered i s.live) (λ index. t.slots.items ≡ option_map_or (λ p. with_slot (with_piece (projected_as i index.def p)) i r.slots.items) o r.slots.items)) (state_followed m r follows) slots)
            works)
