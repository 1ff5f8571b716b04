-- Lists of slots by the numbers of their indexes, and what changes in them.
use Rattle.std.specs.Prelude.{◌≡◌, ◌≢◌, ℕ, ◌<◌, ◌≤◌, Bool, List, length, Option, Some, None, slice_get, slice_set, option_map, map, IfSome, fold, if◌then◌else◌, ⊤}
use Rattle.std.specs.Option.{option_map_or}
use Rattle.std.specs.List.{filter}
use Rattle.std.specs.Arc.{arc_value}
use Rattle.vb_store.specs.declared.mutation.Mutation.{Mutation}
use Rattle.n1ql_value.specs.declared.state.State.{State as Stage}
use Rattle.n1ql_value.specs.declared.state.State.TheVariants.{Deferred}
use Rattle.index_def.specs.declared.definition.IndexDef.{IndexDef}
use Rattle.index_def.specs.LiveIndexes.{Live, named, numbered}
use Rattle.dcp_stream.specs.declared.piece.Piece.{Piece}
use Rattle.key_eval.specs.declared.projected.Projected.{Projected}
use Rattle.key_eval.specs.Versions.{version_of}
use Rattle.projector.specs.declared.numbered_def.NumberedDef.{NumberedDef}
use Rattle.index_snapshot.specs.declared.snapshot.Snapshot.{Snapshot}
use Rattle.index_snapshot.specs.Stands.{WorkerStands, SnapshotStands}
use Rattle.index_snapshot.specs.Workers.{delivered}
use Rattle.scan_history.specs.First.{is_online}
use Rattle.scan_history.specs.Fold.{State}
use Rattle.gsi_hub.specs.Past.{Past, state_of}
use Rattle.gsi_sched.specs.Running.{IsWorking}
use Rattle.gsi_sched.specs.Slots.{Slot, first_slot, with_piece, after_deliveries}

-- an index of a state is building or online
abbrev pub IsWorkingNumber : State → ℕ → Type 0
IsWorkingNumber s i = IsWorking s.live i

-- the slot at a place changed, where there is one
abbrev pub with_slot : (Slot → Slot) → ℕ → List (Option Slot) → List (Option Slot)
with_slot change i slots = option_map_or (λ (slot : Option Slot). slice_set slots i (option_map change slot)) (slice_get slots i) slots

-- there is a slot at a place, and this holds of it
abbrev pub OnSlot : (Slot → Type 0) → Option (Option Slot) → Type 0
OnSlot Holds (Some (Some slot)) = Holds slot
OnSlot Holds _ = ⊥

-- each piece is sent to the slot of its index
abbrev pub with_sent : List Projected → List (Option Slot) → List (Option Slot)
with_sent ps slots = fold (λ slots (p : Projected). with_slot (with_piece p) p.index slots) slots ps

-- a piece is given to a slot's worker, past its inbox; and these are, one after another
abbrev pub given_to_worker : Projected → Slot → Slot
given_to_worker p s = record s { worker = delivered p s.worker }

abbrev pub all_given : List Projected → Slot → Slot
all_given ps s = record s { worker = after_deliveries ps s.worker }

-- a snapshot was made at the worker's vector
abbrev pub snapshot_taken : Slot → Slot
snapshot_taken s = record s { worker = record s.worker { shown = s.worker.taken.at } }

-- the rows of the slot's worker at its vector: they stand for the mutations that it stands for
pub record IsSnapshotOf (s : Slot) (x : Snapshot) : Type 0 where
  pub index : x.index ≡ s.worker.index
  pub def : arc_value x.def ≡ s.worker.def
  pub vector : arc_value x.vector ≡ s.worker.taken.at
  pub stands : (n : ℕ) (log : List Mutation) → WorkerStands n log s.worker → SnapshotStands n log x

-- a piece can be given to a slot's worker
pub record Takes (s : Slot) (p : Projected) : Type 0 where
  pub vbucket : p.vb < length s.worker.taken.at
  pub some : p.from ≤ p.to
  pub last : p.to ≤ p.end

-- that at a place of its inbox can, where there is one
abbrev pub TakesFrom : (place : ℕ) → Slot → Type 0
TakesFrom place s = IfSome (slice_get s.inbox place) (Takes s)

-- a piece can be given to a slot's worker, once it is projected
pub record IsPieceFor (s : Slot) (p : Piece) : Type 0 where
  pub vbucket : p.vb < length s.worker.taken.at
  pub some : p.from ≤ p.to
  pub last : p.to ≤ p.end

-- this holds of the live index of a number, where there is one
abbrev pub IfNumbered : State → ℕ → (Live → Type 0) → Type 0
IfNumbered s i Holds = IfSome (numbered i s.live) Holds

-- each building or online index has a slot
abbrev pub HasSlots : State → List (Option Slot) → Type 0
HasSlots s slots = (i : ℕ) (index : Live) → numbered i s.live ≡ Some index → index.state ≢ Deferred → OnSlot (λ slot. ⊤) (slice_get slots i)

-- what becomes of a piece in the index of a number and a definition
abbrev pub projected_as : ℕ → IndexDef → Piece → Projected
projected_as i def p = record {
  index = i;
  vb = p.vb;
  from = p.from;
  to = p.to;
  end = p.end;
  versions = map (version_of def) p.muts;
}

-- the online ones of the live indexes
abbrev pub online_in : List Live → List Live
online_in live = filter (λ (index : Live). is_online index.state) live

-- the number and the definition of an index
abbrev pub numbered_def_of : NumberedDef → ℕ × IndexDef
numbered_def_of d = (d.number, arc_value d.def)

abbrev pub numbered_def_in : Live → ℕ × IndexDef
numbered_def_in index = (index.number, index.def)

-- a piece is sent to each online index, as it is projected for that
abbrev pub sent_online : List Live → Piece → List (Option Slot) → List (Option Slot)
sent_online live p slots = with_sent (map (λ (index : Live). projected_as index.number index.def p) (online_in live)) slots

-- an index of this number is live
abbrev pub IsLiveNumber : State → ℕ → Type 0
IsLiveNumber s i = (index : Live) × (numbered i s.live ≡ Some index)

-- the slot and the initial stream of an index whose building begins
abbrev pub with_begun_slot : Past → ℕ → List (Option Slot) → List (Option Slot)
with_begun_slot p i slots =
    option_map_or (λ (index : Live). slice_set slots i (Some (first_slot i index.def p.script.vbuckets))) (numbered i (state_of p).live) slots

-- the slot at a number is there, and its worker's vector has so many entries
abbrev pub IsSizedSlot : ℕ → List (Option Slot) → ℕ → Type 0
IsSizedSlot n slots i = OnSlot (λ slot. length slot.worker.taken.at ≡ n) (slice_get slots i)

-- the number of the live index of a name, where it is in a state that is needed
abbrev pub number_in : (Stage → Bool) → List ℕ → List Live → Option ℕ
number_in needed name live =
    option_map_or (λ (index : Live). if needed index.state then Some index.number else None) (named name live) None

-- the slots of several indexes whose building begins
abbrev pub with_begun_slots : Past → List ℕ → List (Option Slot) → List (Option Slot)
with_begun_slots p is slots = fold (λ slots i. with_begun_slot p i slots) slots is

-- the number of an index that is online
abbrev pub online_number : Option Live → Option ℕ
online_number found = option_map_or (λ (index : Live). if is_online index.state then Some index.number else None) found None
