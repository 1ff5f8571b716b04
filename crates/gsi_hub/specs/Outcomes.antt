-- What calls of a hub answer, by the event that they add, or by why they add none.
use Rattle.std.specs.Prelude.{◌≡◌, ◌≢◌, ◌⊎◌, ℕ, ◌==◌, ◌≤◌, IsTrue, true, false, List, [], ◌∷◌, Some, None, ⊤}
use Rattle.std.specs.List.{AllByRecursion, list_any}
use Rattle.std.specs.Arc.{arc_value}
use Rattle.seq_vector.specs.Vectors.{IsCovered}
use Rattle.index_def.specs.LiveIndexes.{numbered}
use Rattle.scan_coord.specs.declared.decision.Decision.TheVariants as decision
use Rattle.scan_coord.specs.Decisions.{decision_of}
use Rattle.scan_history.specs.declared.why.Why.TheVariants.{Plain}
use Rattle.scan_history.specs.Events.{Event, mutate, define, build, online, publish, removed, start, answer, refuse}
use Rattle.scan_history.specs.Fold.{State}
use Rattle.scan_history.specs.Legal.{IfLive, GoesOn, live_among}
use Rattle.scan_history.specs.Refusals as code
use Rattle.gsi_hub.specs.declared.defined.Defined.{Defined}
use Rattle.gsi_hub.specs.declared.defined.Defined.TheVariants as defined
use Rattle.gsi_hub.specs.declared.started.Started.{Started as Start}
use Rattle.gsi_hub.specs.declared.started.Started.TheVariants as started
use Rattle.gsi_hub.specs.declared.picked.Picked.{Picked as Pick}
use Rattle.gsi_hub.specs.declared.picked.Picked.TheVariants as picked
use Rattle.gsi_hub.specs.declared.published.Published.{Published as Publication}
use Rattle.gsi_hub.specs.declared.published.Published.TheVariants as published
use Rattle.gsi_hub.specs.declared.went_online.WentOnline.{WentOnline}
use Rattle.gsi_hub.specs.declared.went_online.WentOnline.TheVariants as went_online
use Rattle.gsi_hub.specs.Past.{Past, state_of, part_in, high_in, Adds, Acted}
use Rattle.gsi_hub.specs.Snapshots.{IsNewestOf}

-- a mutation with this number
abbrev pub IsMutation : ℕ → Event → Type 0
IsMutation seqno (mutate c k what) = what.seqno ≡ seqno
IsMutation seqno _ = ⊥

-- what a statement comes to: it is closed at once, indexes are built, or it is refused
abbrev pub IsDefined : Defined → Event → Type 0
IsDefined defined.Closed (define c k i deferred def) = deferred ≡ true
IsDefined defined.Closed (removed c k i) = ⊤
IsDefined (defined.Building numbers) (define c k i deferred def) = (deferred ≡ false) × (numbers ≡ i ∷ [])
IsDefined (defined.Building numbers) (build c k indexes) = numbers ≡ indexes
IsDefined (defined.Refused number) (refuse c k n why) = number ≡ n
IsDefined _ _ = ⊥

-- what a request comes to: it began on an index, or it is refused
abbrev pub IsStarted : Start → Event → Type 0
IsStarted (started.Started index) (start c k i demand) = index ≡ i
IsStarted (started.Refused number) (refuse c k n why) = number ≡ n
IsStarted _ _ = ⊥

-- the refusal of a client's command whose indexes were dropped
abbrev pub DropsCommand : ℕ → Past → Past → Type 0
DropsCommand c old new = Acted c old new (λ e. e ≡ refuse c (part_in old c).next code.dropped Plain)

-- What becomes of a client's request on index i: it is answered from the index's newest snapshot, which covers its demand; that doesn't cover
-- it, and nothing happens; or the index isn't live, and it is refused.
abbrev pub IsPick : (c i : ℕ) → (demand : List ℕ) → Past → Pick → Past → Type 0
IsPick c i demand old (picked.Picked s) new =
    let board = (state_of old).published i in
    IfLive i (state_of old) (λ index. ⊤) × IsNewestOf old i (Some (arc_value s)) × IsCovered demand board
    × Acted c old new (λ e. e ≡ answer c (part_in old c).next board)
IsPick c i demand old (picked.NotYet vb want have at) new =
    let board = (state_of old).published i in
    IfLive i (state_of old) (λ index. ⊤) × (decision_of demand board ≡ decision.NotYet vb want have) × (arc_value at ≡ board) × (new ≡ old)
IsPick c i demand old picked.Dropped new = (numbered i (state_of old).live ≡ None) × DropsCommand c old new

-- What becomes of a snapshot of index i at a vector: it is published; the vector doesn't cover that of the newest one, or is the same; or the
-- index isn't live.
abbrev pub IsPublished : (i : ℕ) → (at : List ℕ) → Past → Publication → Past → Type 0
IsPublished i at old published.Published new =
    IfLive i (state_of old) (GoesOn (high_in old) ((state_of old).published i) at) × Adds (publish i at) old new
IsPublished i at old published.Stale new =
    IfLive i (state_of old) (λ index. (¬ IsCovered ((state_of old).published i) at) ⊎ (at ≡ (state_of old).published i)) × (new ≡ old)
IsPublished i at old published.Dropped new = (numbered i (state_of old).live ≡ None) × (new ≡ old)

-- the newest publication of an index doesn't cover where its build began
abbrev pub Lags : State → (high : List ℕ) → ℕ → Type 0
Lags s high i = ¬ IsCovered high (s.published i)

-- the least of these that lags
pub record IsLeastThatLags (s : State) (high indexes : List ℕ) (i : ℕ) : Type 0 where
  pub one : IsTrue (list_any (λ j. j == i) indexes)
  pub lags : Lags s high i
  pub least : AllByRecursion (λ j. Lags s high j → i ≤ j) indexes

-- What becomes of the building of indexes: those that are live go online, as none of them lags; one does, and nothing happens; or none is live,
-- and the command is refused.
abbrev pub IsOnline : (c : ℕ) → (indexes high : List ℕ) → Past → WentOnline → Past → Type 0
IsOnline c indexes high old went_online.Online new =
    let live = live_among indexes (state_of old) in
    (live ≢ []) × AllByRecursion (λ i. IsCovered high ((state_of old).published i)) live
    × Acted c old new (λ e. e ≡ online c (part_in old c).next live)
IsOnline c indexes high old (went_online.NotCovered i) new = IsLeastThatLags (state_of old) high (live_among indexes (state_of old)) i × (new ≡ old)
IsOnline c indexes high old went_online.Dropped new = (live_among indexes (state_of old) ≡ []) × DropsCommand c old new
