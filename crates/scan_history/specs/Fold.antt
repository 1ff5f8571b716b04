-- What a list of events leaves: the mutations, the definitions, the live indexes with their publications, and a part for each client.
use Rattle.std.specs.Prelude.{ℕ, ◌+◌, Bool, false, ◌==◌, List, [], ◌∷◌, ◌++◌, fold, slice_set, if◌then◌else◌}
use Rattle.std.specs.Option.{option_map_or}
use Rattle.seq_vector.specs.Vectors.{zeros, join}
use Rattle.vb_store.specs.declared.mutation.Mutation.{Mutation}
use Rattle.vb_store.specs.Mutations.{high_of}
use Rattle.n1ql_value.specs.declared.state.State.TheVariants.{Building, Online}
use Rattle.index_def.specs.declared.definition.IndexDef.{IndexDef}
use Rattle.index_def.specs.LiveIndexes.{Live, state_at_creation, all_in_state, without}
use Rattle.scan_history.specs.Events.{Event, mutate, define, build, online, publish, removed, start, answer, pick, fetch, client_of}

-- what is open for a client: nothing; the building of indexes, with the newest numbers when it began; a request that began
-- on an index, with what its answer has to cover and the newest numbers when it began; or one with the vector that it picked
pub data Opened : Type 0 where
  nothing : Opened
  work : (indexes high : List ℕ) → Opened
  started : (i : ℕ) → (demand high : List ℕ) → Opened
  picked : (i : ℕ) → (at : List ℕ) → Opened

-- a client's part: what is open, the place of its next command, the join of the vectors that its answers showed, and the
-- newest number that it wrote in each vBucket
pub record Client : Type 0 where
  pub opened : Opened
  pub next : ℕ
  pub seen : List ℕ
  pub wrote : List ℕ

-- The mutations in order; the definitions of all indexes that were ever made, by number; the live indexes; the vector of each
-- index's newest publication, by number; and the clients' parts.
pub record State : Type 0 where
  pub log : List Mutation
  pub defs : List IndexDef
  pub live : List Live
  pub published : ℕ → List ℕ
  pub client : ℕ → Client

-- a client that did nothing, among n vBuckets
abbrev pub first_part : ℕ → Client
first_part n = record { opened = nothing; next = 0; seen = zeros n; wrote = zeros n }

-- before the first event; what was never published counts as published with nothing in it
abbrev pub first_state : ℕ → State
first_state n = record { log = []; defs = []; live = []; published = λ i. zeros n; client = λ c. first_part n }

-- the mutations after an event
abbrev pub log_step : List Mutation → Event → List Mutation
log_step log (mutate c k what) = log ++ what ∷ []
log_step log _ = log

-- the definitions after an event
abbrev pub defs_step : List IndexDef → Event → List IndexDef
defs_step defs (define c k i deferred def) = defs ++ def ∷ []
defs_step defs _ = defs

-- the live indexes after an event
abbrev pub live_step : List Live → Event → List Live
live_step live (define c k i deferred def) = live ++ record { number = i; def = def; state = state_at_creation deferred } ∷ []
live_step live (build c k indexes) = all_in_state indexes Building live
live_step live (online c k indexes) = all_in_state indexes Online live
live_step live (removed c k i) = without i live
live_step live _ = live

-- the newest publications after an event
abbrev pub published_step : (ℕ → List ℕ) → Event → ℕ → List ℕ
published_step published (publish i at) j = if j == i then at else published j
published_step published _ j = published j

-- the command that is open is closed
abbrev pub closed : Client → Client
closed s = record s { opened = nothing; next = s.next + 1 }

-- the index that a client's request began on
abbrev pub index_in : Opened → ℕ
index_in (started i demand high) = i
index_in (picked i at) = i
index_in _ = 0

-- a client's part after an event of its own, where `high` are the newest numbers before it
abbrev pub own_step : List ℕ → Client → Event → Client
own_step high s (mutate c k what) = record (closed s) { wrote = slice_set s.wrote what.vb what.seqno }
own_step high s (define c k i deferred def) = if deferred then closed s else record s { opened = work (i ∷ []) high }
own_step high s (build c k indexes) = record s { opened = work indexes high }
own_step high s (start c k i demand) = record s { opened = started i demand high }
own_step high s (answer c k at) = record (closed s) { seen = join s.seen at }
own_step high s (pick c k at) = record s { opened = picked (index_in s.opened) at; seen = join s.seen at }
own_step high s (fetch c k at fetched) = record (closed s) { seen = join (join s.seen at) fetched }
own_step high s (publish i at) = s
own_step high s _ = closed s

-- the event is a part of a command of the client
abbrev pub is_of : ℕ → Event → Bool
is_of c e = option_map_or (λ d. d == c) (client_of e) false

abbrev pub client_step : List ℕ → ℕ → Client → Event → Client
client_step high c s e = if is_of c e then own_step high s e else s

abbrev pub step : ℕ → State → Event → State
step n s e = record {
  log = log_step s.log e;
  defs = defs_step s.defs e;
  live = live_step s.live e;
  published = published_step s.published e;
  client = λ c. client_step (high_of n s.log) c (s.client c) e;
}

abbrev pub state_from : ℕ → State → List Event → State
state_from n s events = fold (step n) s events

-- the state that events leave
unfoldable pub state_after : ℕ → List Event → State
state_after n events = state_from n (first_state n) events
