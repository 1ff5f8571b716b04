-- What a line of the schedule does, where it isn't a client's action.
use Rattle.std.specs.Prelude.{ℕ, Bool, true, false, not, List, slice_get, if◌then◌else◌}
use Rattle.std.specs.Option.{option_map_or}
use Rattle.std.specs.Str.{bytes_eq}
use Rattle.n1ql_value.specs.declared.state.State.{State as Stage}
use Rattle.n1ql_value.specs.declared.state.State.TheVariants.{Building}
use Rattle.index_def.specs.LiveIndexes.{Live, named, numbered, is_deferred}
use Rattle.dcp_stream.specs.Streams.{Bounds, next_bounds, passed, rewound}
use Rattle.scan_history.specs.Events.{publish}
use Rattle.scan_history.specs.First.{is_online}
use Rattle.gsi_sched.specs.Machine.{Machine, now_in, high_in, published_in, with_event, with_worker, with_initial, sent, unsent, taken}

abbrev pub is_building : Stage → Bool
is_building Building = true
is_building _ = false

-- building and online indexes have a worker
abbrev pub has_worker : Stage → Bool
has_worker stage = not (is_deferred stage)

-- among n vBuckets
module _ (n : ℕ) where
  -- a line that names an index: nothing where no live index with the name is in a state that it needs
  abbrev pub on_index : List ℕ → (Stage → Bool) → (ℕ → Machine → Machine) → Machine → Machine
  on_index name needed does m =
      option_map_or (λ (index : Live). if needed index.state then does index.number m else m) (named name (now_in n m).live) m

  -- whether the index of this number is online
  abbrev pub is_online_in : Machine → ℕ → Bool
  is_online_in m i = option_map_or (λ (index : Live). is_online index.state) (numbered i (now_in n m).live) false

  -- the maintenance stream gives a piece, which is sent to each online index
  abbrev pub given : Bounds → Machine → Machine
  given b m = record m { maint = passed b m.maint; worker = λ i. if is_online_in m i then sent b (m.worker i) else m.worker i }

  -- the next piece of the maintenance stream, of at most so many mutations, where it has one
  abbrev pub project : (most vb : ℕ) → Machine → Machine
  project most vb m = option_map_or (λ b. given b m) (next_bounds (high_in n m) most vb m.maint) m

  -- the initial stream of an index gives a piece, which is sent to that index alone
  abbrev pub given_to : ℕ → Bounds → Machine → Machine
  given_to i b m = with_worker i (sent b (m.worker i)) (with_initial i (passed b (m.initial i)) m)

  abbrev pub project_to : (most vb i : ℕ) → Machine → Machine
  project_to most vb i m = option_map_or (λ b. given_to i b m) (next_bounds (high_in n m) most vb (m.initial i)) m

  -- the piece at a place of an inbox is taken out and given to the worker
  abbrev pub deliver : (place i : ℕ) → Machine → Machine
  deliver place i m = option_map_or (λ b. with_worker i (taken b (unsent place (m.worker i))) m) (slice_get (m.worker i).inbox place) m

  -- or taken out and forgotten
  abbrev pub lose : (place i : ℕ) → Machine → Machine
  lose place i m = with_worker i (unsent place (m.worker i)) m

  -- a vector is published where it isn't that of the newest publication
  abbrev pub publish_at : List ℕ → ℕ → Machine → Machine
  publish_at at i m = if bytes_eq at (published_in n i m) then m else with_event (publish i at) m

  -- as far as the worker has come
  abbrev pub publish_now : ℕ → Machine → Machine
  publish_now i m = publish_at (m.worker i).at i m

-- the maintenance stream goes back to a vector
abbrev pub rewind : List ℕ → Machine → Machine
rewind to m = record m { maint = rewound to m.maint }

-- the initial stream of an index goes back to a vector
abbrev pub rewind_to : List ℕ → ℕ → Machine → Machine
rewind_to to i m = with_initial i (rewound to (m.initial i)) m
