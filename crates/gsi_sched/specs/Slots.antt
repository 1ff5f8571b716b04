-- The workers of the indexes with their rows, and what the machine's numbers tell of them.
use Rattle.std.specs.Prelude.{◌≡◌, ◌≢◌, ℕ, Bool, false, not, List, [], ◌∷◌, ◌++◌, map, remove, slice_get, Some, true, fold, ◌+◌, ◌<◌, ◌≤◌, ◌==◌, if◌then◌else◌}
use Rattle.std.specs.List.{AllByRecursion, list_any}
use Rattle.std.specs.Option.{option_map_or}
use Rattle.seq_vector.specs.Vectors.{entry}
use Rattle.vb_store.specs.declared.mutation.Mutation.{Mutation}
use Rattle.vb_store.specs.Mutations.{high_of}
use Rattle.n1ql_value.specs.declared.state.State.TheVariants.{Deferred}
use Rattle.index_def.specs.declared.definition.IndexDef.{IndexDef}
use Rattle.index_def.specs.LiveIndexes.{Live, numbered, is_deferred}
use Rattle.dcp_stream.specs.Streams.{Bounds}
use Rattle.key_eval.specs.declared.projected.Projected.{Projected}
use Rattle.key_eval.specs.Stands.{ProjectedStands}
use Rattle.index_snapshot.specs.Workers.{Worker as RowWorker, first_worker, delivered}
use Rattle.index_snapshot.specs.Stands.{WorkerStands}
use Rattle.scan_history.specs.Fold.{State}
use Rattle.gsi_sched.specs.Machine.{Worker, Machine, now_in, taken, unsent}
use Rattle.gsi_sched.specs.ScheduleLines.{is_online_in}

-- the worker of an index, and the projected pieces that wait for it
pub record Slot : Type 0 where
  pub worker : RowWorker
  pub inbox : List Projected

-- a projected piece by its numbers
abbrev pub numbers_in : Projected → Bounds
numbers_in p = record { vb = p.vb; from = p.from; to = p.to; end = p.end }

-- a slot by its numbers
abbrev pub shown : Slot → Worker
shown s = record { at = s.worker.taken.at; inbox = map numbers_in s.inbox }

-- the slot of an index that begins to be built, among n vBuckets
abbrev pub first_slot : ℕ → IndexDef → (n : ℕ) → Slot
first_slot i def n = record { worker = first_worker i def n; inbox = [] }

-- one more piece waits
abbrev pub with_piece : Projected → Slot → Slot
with_piece p s = record s { inbox = s.inbox ++ p ∷ [] }

-- the piece at a place waits no longer
abbrev pub without_piece : (place : ℕ) → Slot → Slot
without_piece place s = record s { inbox = remove s.inbox place }

-- it is taken out and given to the worker, where there is one
abbrev pub after_delivery : (place : ℕ) → Slot → Slot
after_delivery place s =
    option_map_or (λ p. record (without_piece place s) { worker = delivered p s.worker }) (slice_get s.inbox place) s

-- what the machine's numbers do then
abbrev pub numbers_after_delivery : (place : ℕ) → Worker → Worker
numbers_after_delivery place w = option_map_or (λ b. taken b (unsent place w)) (slice_get w.inbox place) w

-- a worker to which these pieces were delivered, one after another
abbrev pub after_deliveries : List Projected → RowWorker → RowWorker
after_deliveries ps w = fold (λ w p. delivered p w) w ps

-- Pieces that bring a worker up to the newest numbers: each goes on where the worker is, or before, and to the newest number of its
-- vBucket, and there is one for each vBucket in which the worker isn't there yet.
pub record BringUp (n : ℕ) (log : List Mutation) (w : RowWorker) (ps : List Projected) : Type 0 where
  pub stand : AllByRecursion (ProjectedStands n w.def log) ps
  pub go_on : AllByRecursion (λ (p : Projected). p.from ≤ entry w.taken.at p.vb + 1) ps
  pub whole : AllByRecursion (λ (p : Projected). p.to ≡ entry (high_of n log) p.vb) ps
  pub each : (vb : ℕ) → vb < n → entry w.taken.at vb < entry (high_of n log) vb → list_any (λ (p : Projected). p.vb == vb) ps ≡ true

-- The worker of an index of this definition stands for the mutations, each piece that waits for it does so too, and the machine has the
-- numbers of both.
pub record IsKept (n : ℕ) (log : List Mutation) (def : IndexDef) (s : Slot) (w : Worker) : Type 0 where
  pub own : s.worker.def ≡ def
  pub worker : WorkerStands n log s.worker
  pub pieces : AllByRecursion (ProjectedStands n def log) s.inbox
  pub numbers : shown s ≡ w

-- whether an index is building or online
abbrev pub is_working : State → ℕ → Bool
is_working s i = option_map_or (λ (index : Live). not (is_deferred index.state)) (numbered i s.live) false

-- An event leads from one state to another: an index whose building it begins has a new slot, and the others have theirs.
abbrev pub begun_slots : ℕ → (before after : State) → (ℕ → Slot) → ℕ → Slot
begun_slots n before after slots i =
    if is_working before i then slots i else option_map_or (λ (index : Live). first_slot i index.def n) (numbered i after.live) (slots i)

-- a piece of the maintenance stream is sent to each online index, as it is projected for that
abbrev pub given_slots : ℕ → Machine → (ℕ → Projected) → (ℕ → Slot) → ℕ → Slot
given_slots n m projected slots i = if is_online_in n m i then with_piece (projected i) (slots i) else slots i

-- the slot of each building or online index is kept
abbrev pub AreKept : ℕ → Machine → (ℕ → Slot) → Type 0
AreKept n m slots =
    (i : ℕ) (index : Live) → numbered i (now_in n m).live ≡ Some index → index.state ≢ Deferred → IsKept n (now_in n m).log index.def (slots i) (m.worker i)

-- there are slots that the machine has the numbers of
abbrev pub HasSlots : ℕ → Machine → Type 0
HasSlots n m = (slots : ℕ → Slot) × AreKept n m slots
