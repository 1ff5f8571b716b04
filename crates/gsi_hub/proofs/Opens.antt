-- What is open for a client, and the newest snapshot of its index.
use Rattle.std.proofs.Common.{◌≡◌, ◌≢◌, ℕ, Bool, true, false, cond, List, [], ◌∷◌, length, filter, Option, Some, None, MatchOption, refl, sym, ◌∙◌, subst}
use Rattle.std.specs.Prelude.{⊤, IfSome}
use Rattle.std.specs.Arc.{arc_value}
use Rattle.std.specs.List.{AllByRecursion}
use Rattle.seq_vector.specs.Vectors.{IsCovered}
use Rattle.n1ql_value.specs.declared.state.State.TheVariants.{Deferred}
use Rattle.index_def.specs.declared.definition.IndexDef.{IndexDef}
use Rattle.index_snapshot.specs.Stands.{SnapshotStands}
use Rattle.index_def.specs.LiveIndexes.{Live, numbered}
use Rattle.index_snapshot.specs.declared.snapshot.Snapshot.{Snapshot}
use Rattle.scan_history.specs.Fold.{Opened, nothing, work, started, picked, State}
use Rattle.scan_history.specs.Legal.{IfLive, GoesOn}
use Rattle.gsi_hub.specs.Past.{Past, state_of, high_in}
use Rattle.gsi_hub.specs.Snapshots.{IsNewest, IsNewestAmong}
use Rattle.gsi_hub.specs.Stages.{OnRequest, OnWork}
use Rattle.gsi_hub.specs.declared.published.Published.{Published as Publication}
use Rattle.gsi_hub.specs.declared.published.Published.TheVariants.{Published, Stale, Dropped}
use Rattle.gsi_hub.specs.inner.Steps.{IsProgress, IsProgressOf}
use Rattle.gsi_hub.specs.inner.Kept.{IsServed, AreServed}

-- a request that is open, with what holds of it
pub request_map : (o : Opened) (P Q : ℕ → List ℕ → Type 0) → ((i : ℕ) (demand high : List ℕ) → o ≡ started i demand high → P i demand → Q i demand)
    → OnRequest o P → OnRequest o Q
request_map nothing P Q f h = absurd h
request_map (work indexes high) P Q f h = absurd h
request_map (started i demand high) P Q f h = f i demand high refl h
request_map (picked i at) P Q f h = absurd h

pub request_at : (o : Opened) (P : ℕ → List ℕ → Type 0) (i : ℕ) (demand high : List ℕ) → o ≡ started i demand high → OnRequest o P → P i demand
request_at o P i demand high is h = subst (λ (o : Opened). OnRequest o P) is h

pub request_is : (o : Opened) (P : ℕ → List ℕ → Type 0) (i : ℕ) (demand high : List ℕ) → o ≡ started i demand high → P i demand → OnRequest o P
request_is o P i demand high is h = subst (λ (o : Opened). OnRequest o P) (sym is) h

-- the same of building
pub work_map : (o : Opened) (P Q : List ℕ → List ℕ → Type 0) → ((indexes high : List ℕ) → o ≡ work indexes high → P indexes high → Q indexes high)
    → OnWork o P → OnWork o Q
work_map nothing P Q f h = absurd h
work_map (work indexes high) P Q f h = f indexes high refl h
work_map (started i demand high) P Q f h = absurd h
work_map (picked i at) P Q f h = absurd h

pub work_at : (o : Opened) (P : List ℕ → List ℕ → Type 0) (indexes high : List ℕ) → o ≡ work indexes high → OnWork o P → P indexes high
work_at o P indexes high is h = subst (λ (o : Opened). OnWork o P) is h

-- a live index
pub live_if : (i : ℕ) (s : State) (P : Live → Type 0) (index : Live) → numbered i s.live ≡ Some index → P index → IfLive i s P
live_if i s P index is h = subst (λ (o : Option Live). MatchOption o ⊥ P) (sym is) h

if_found : (o : Option Live) (P : Live → Type 0) → MatchOption o ⊥ P → (index : Live) × (o ≡ Some index) × P index
if_found None P h = absurd h
if_found (Some index) P h = (index, refl, h)

pub if_live : (i : ℕ) (s : State) (P : Live → Type 0) → IfLive i s P → (index : Live) × (numbered i s.live ≡ Some index) × P index
if_live i s P h = if_found (numbered i s.live) P h

-- an index that has a snapshot is live, and one that has none isn't
pub shown : (n : ℕ) (s : State) (o : Option Live) (x : Snapshot) → IsNewestAmong n s o (Some x) → (index : Live) × (o ≡ Some index) × IsNewest n s index x
shown n s None x h = absurd h
shown n s (Some index) x h = (index, refl, h)

pub unshown : (n : ℕ) (s : State) (o : Option Live) → IsNewestAmong n s o None → o ≡ None
unshown n s None h = refl
unshown n s (Some index) h = absurd h

if_some : {A : Type 0} (o : Option A) (P : A → Type 0) (x : A) → o ≡ Some x → MatchOption o ⊤ P → P x
if_some o P x e h = subst (λ (q : Option _). MatchOption q ⊤ P) e h

-- a snapshot that goes on may be published
pub may_publish : (p : Past) (x : Snapshot) (at : List ℕ) → SnapshotStands p.script.vbuckets (state_of p).log x
    → IfSome (numbered x.index (state_of p).live) (λ index. (index.def ≡ arc_value x.def) × (index.state ≢ Deferred))
    → IfLive x.index (state_of p) (λ index. IsCovered ((state_of p).published x.index) (arc_value x.vector) × (arc_value x.vector ≢ (state_of p).published x.index))
    → at ≡ arc_value x.vector → length (high_in p) ≡ p.script.vbuckets
    → IfLive x.index (state_of p) (λ index. (index.def ≡ arc_value x.def) × GoesOn (high_in p) ((state_of p).published x.index) at index)
may_publish p x at stands served goes vector size =
    let s = state_of p in
    let board : List ℕ = s.published x.index in
    let index = if_live x.index s (λ index. IsCovered board (arc_value x.vector) × (arc_value x.vector ≢ board)) goes in
    let kept = if_some (numbered x.index s.live) (λ index. (index.def ≡ arc_value x.def) × (index.state ≢ Deferred)) index.0 index.1 served in
    live_if x.index s (λ index. (index.def ≡ arc_value x.def) × GoesOn (high_in p) board at index) index.0 index.1 (
      kept.0,
      subst (λ (v : List ℕ). GoesOn (high_in p) board v index.0) (sym vector)
          (record { served = kept.1; size = stands.at.size ∙ sym size; forth = index.2.0; reached = stands.at.reached; other = index.2.1 }),
    )

pub goes_alone : (p : Past) (i : ℕ) (def : IndexDef) (at : List ℕ) → IfLive i (state_of p) (λ index. (index.def ≡ def) × GoesOn (high_in p) ((state_of p).published i) at index)
    → IfLive i (state_of p) (GoesOn (high_in p) ((state_of p).published i) at)
goes_alone p i def at h =
    let goes : Live → Type 0 = GoesOn (high_in p) ((state_of p).published i) at in
    let index = if_live i (state_of p) (λ index. (index.def ≡ def) × goes index) h in
    live_if i (state_of p) goes index.0 index.1 index.2.1

-- what is open is the building of these indexes
pub record IsOpenWork (o : Opened) (P : List ℕ → List ℕ → Type 0) : Type 0 where
  pub indexes : List ℕ
  pub high : List ℕ
  pub opened : o ≡ work indexes high
  pub holds : P indexes high

pub open_work : (o : Opened) (P : List ℕ → List ℕ → Type 0) → OnWork o P → IsOpenWork o P
open_work nothing P h = absurd h
open_work (work indexes high) P h = record { indexes = indexes; high = high; opened = refl; holds = h }
open_work (started i demand high) P h = absurd h
open_work (picked i at) P h = absurd h

pub work_is : (o : Opened) (P : List ℕ → List ℕ → Type 0) (indexes high : List ℕ) → o ≡ work indexes high → P indexes high → OnWork o P
work_is o P indexes high is h = subst (λ (o : Opened). OnWork o P) (sym is) h

-- those that are built aren't deferred, and so are the live ones among them
each_filter : (P : ℕ → Type 0) (t : ℕ → Bool) (xs : List ℕ) → AllByRecursion P xs → AllByRecursion P (filter t xs)
each_filter P t [] all = tt
each_filter P t (x ∷ xs) all = by (t x) (each_filter P t xs all.1)
  where
    by : (b : Bool) → AllByRecursion P (filter t xs) → AllByRecursion P (cond b (x ∷ filter t xs) (filter t xs))
    by true rest = (all.0, rest)
    by false rest = rest

pub work_served : (live : List Live) (t : ℕ → Bool) (o : Opened) (indexes high : List ℕ) → o ≡ work indexes high → AreServed live o
    → AllByRecursion (λ i. IsServed (numbered i live)) (filter t indexes)
work_served live t o indexes high is served =
    each_filter (λ i. IsServed (numbered i live)) t indexes (subst (AreServed live) is served)

-- what becomes of a snapshot of a live index
pub progress_of : (p : Past) (i : ℕ) (at : List ℕ) (r : Publication) (index : Live) → numbered i (state_of p).live ≡ Some index
    → IsProgress ((state_of p).published i) at r → IsProgressOf p i at r
progress_of p i at Published index found h = live_if i (state_of p) (λ index. IsProgress ((state_of p).published i) at Published) index found h
progress_of p i at Stale index found h = live_if i (state_of p) (λ index. IsProgress ((state_of p).published i) at Stale) index found h
progress_of p i at Dropped index found h = absurd h
