-- What clauses read of a lock, a pass and a note.
use Rattle.std.specs.Prelude.{◌≡◌, ℕ, true, false, List, [], ◌∷◌, length, Option, Some, None, IsSome}
use Rattle.atomic_table.specs.Seated.{TableId}
use Rattle.history_lock.specs.declared.chronicle.Chronicle.{Ghosts}
use Rattle.history_lock.specs.declared.lock.HistLock.{HistLock}
use Rattle.history_lock.specs.declared.pass.Pass.{Pass}
use Rattle.history_lock.specs.declared.note.Note.{Note}

-- what tells one lock from another
abbrev pub LockId : Type 0
LockId = TableId

-- the list of the state, where there is one
abbrev pub list_of : {S E : Type 0} → (S → List E) → Option S → List E
list_of events None = []
list_of events (Some x) = events x

module _ {S E : Type 0} where
  -- which lock it is
  abbrev pub id_of : HistLock S E → LockId
  id_of l = l.table.shared.table_id

  -- the lock that a pass belongs to
  abbrev pub lock_of : Pass S E → LockId
  lock_of p = p.seat.table_id

  -- the number of a pass's party; the first pass has 0
  abbrev pub party_of : Pass S E → ℕ
  party_of p = p.party

  -- how many passes were made from a pass
  abbrev pub made_from : Pass S E → ℕ
  made_from p = p.made

  -- the list that a pass has seen
  abbrev pub seen_by : Pass S E → List E
  seen_by p = p.seat.me.0.seen

  -- what a pass keeps at run time is what it knows: its number, how many passes were made from it, and how many events it has seen
  abbrev pub IsInStep : Pass S E → Type 0
  IsInStep p = (p.seat.me.0.party ≡ Some p.party) × (p.seat.me.0.made ≡ p.made) × (length p.seat.me.0.seen ≡ p.count)

  -- the pass holds the turn: it has the state, and the table's empty slot
  abbrev pub HoldsTurn : Pass S E → Type 0
  HoldsTurn p = IsInStep p × IsSome p.state × (p.seat.me.0.turn ≡ true) × (p.seat.me.1 ≡ (0, None) ∷ [])

  -- the pass holds no turn
  abbrev pub HoldsNoTurn : Pass S E → Type 0
  HoldsNoTurn p = IsInStep p × (p.state ≡ None) × (p.seat.me.0.turn ≡ false) × (p.seat.me.1 ≡ [])

  -- during a turn, the list of the state as it is now
  abbrev pub list_in : (S → List E) → Pass S E → List E
  list_in events p = list_of events p.state

  -- a pass of the same lock and party, from which as many passes were made
  abbrev pub IsSameParty : Pass S E → Pass S E → Type 0
  IsSameParty p q = (lock_of q ≡ lock_of p) × (party_of q ≡ party_of p) × (made_from q ≡ made_from p)

module _ {S E : Type 0} {g : Ghosts S E} where
  -- the lock that a note belongs to
  abbrev pub lock_of_note : Note S E g → LockId
  lock_of_note n = n.seat.table_id

  -- the list that a note tells of
  abbrev pub told_by : Note S E g → List E
  told_by n = n.seat.me.0.seen
