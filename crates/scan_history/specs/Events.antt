-- What happens, as contracts see it.
use Rattle.std.specs.Prelude.{ℕ, ◌+◌, List, Bool, Option, Some, None, option_map}
use Rattle.vb_store.specs.declared.mutation.Mutation.{Mutation}
use Rattle.index_def.specs.declared.definition.IndexDef.{IndexDef}
use Rattle.scan_history.specs.declared.why.Why.{Why}

-- c is a client, k the place of its command, i an index, a list of numbers a vector or indexes
pub data Event : Type 0 where
  mutate : (c k : ℕ) → (what : Mutation) → Event
  define : (c k i : ℕ) → (deferred : Bool) → (def : IndexDef) → Event
  build : (c k : ℕ) → (indexes : List ℕ) → Event
  online : (c k : ℕ) → (indexes : List ℕ) → Event
  publish : (i : ℕ) → (at : List ℕ) → Event
  removed : (c k i : ℕ) → Event
  start : (c k i : ℕ) → (demand : List ℕ) → Event
  answer : (c k : ℕ) → (at : List ℕ) → Event
  pick : (c k : ℕ) → (at : List ℕ) → Event
  fetch : (c k : ℕ) → (at fetched : List ℕ) → Event
  not_yet : (c k : ℕ) → (have : List ℕ) → Event
  refuse : (c k code : ℕ) → (why : Why) → Event

-- the client whose command an event is a part of; a publication is of none
abbrev pub client_of : Event → Option ℕ
client_of (mutate c k what) = Some c
client_of (define c k i deferred def) = Some c
client_of (build c k indexes) = Some c
client_of (online c k indexes) = Some c
client_of (publish i at) = None
client_of (removed c k i) = Some c
client_of (start c k i demand) = Some c
client_of (answer c k at) = Some c
client_of (pick c k at) = Some c
client_of (fetch c k at fetched) = Some c
client_of (not_yet c k have) = Some c
client_of (refuse c k code why) = Some c

-- the party that an event names: client c is party c + 1
abbrev pub party_of : Event → Option ℕ
party_of e = option_map (λ c. c + 1) (client_of e)
