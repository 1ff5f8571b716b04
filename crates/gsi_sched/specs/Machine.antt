-- The machine that a replay runs: the history so far, and beside it vectors and lists of numbers alone.
use Rattle.std.specs.Prelude.{ℕ, ◌==◌, List, [], ◌∷◌, ◌++◌, remove, slice_set, if◌then◌else◌}
use Rattle.seq_vector.specs.Vectors.{entry, zeros}
use Rattle.vb_store.specs.Mutations.{high_of}
use Rattle.dcp_stream.specs.Streams.{Stream, Bounds, unread}
use Rattle.stability.specs.Offers.{offer_of}
use Rattle.stability.specs.declared.offer.Offer.{Offer}
use Rattle.stability.specs.declared.offer.Offer.TheVariants.{Next}
use Rattle.scan_history.specs.Events.{Event}
use Rattle.scan_history.specs.Fold.{State, state_after}

-- how far the worker of an index has come, and the pieces that wait for it
pub record Worker : Type 0 where
  pub at : List ℕ
  pub inbox : List Bounds

-- the events so far; the maintenance stream; and by the number of an index its initial stream and its worker
pub record Machine : Type 0 where
  pub events : List Event
  pub maint : Stream
  pub initial : ℕ → Stream
  pub worker : ℕ → Worker

-- a worker of n vBuckets to which nothing was sent
abbrev pub idle : ℕ → Worker
idle n = record { at = zeros n; inbox = [] }

abbrev pub first_machine : ℕ → Machine
first_machine n = record { events = []; maint = unread n; initial = λ i. unread n; worker = λ i. idle n }

-- what the events so far leave, and the newest numbers
abbrev pub now_in : ℕ → Machine → State
now_in n m = state_after n m.events

abbrev pub high_in : ℕ → Machine → List ℕ
high_in n m = high_of n (now_in n m).log

-- the vector of an index's newest publication
abbrev pub published_in : ℕ → ℕ → Machine → List ℕ
published_in n i m = (now_in n m).published i

-- a family with another member at i
abbrev pub put_at : {A : Type 0} → ℕ → A → (ℕ → A) → ℕ → A
put_at i a f j = if j == i then a else f j

abbrev pub with_event : Event → Machine → Machine
with_event e m = record m { events = m.events ++ e ∷ [] }

abbrev pub with_worker : ℕ → Worker → Machine → Machine
with_worker i w m = record m { worker = put_at i w m.worker }

abbrev pub with_initial : ℕ → Stream → Machine → Machine
with_initial i s m = record m { initial = put_at i s m.initial }

-- one more piece waits
abbrev pub sent : Bounds → Worker → Worker
sent b w = record w { inbox = w.inbox ++ b ∷ [] }

-- the piece at a place waits no longer
abbrev pub unsent : (place : ℕ) → Worker → Worker
unsent place w = record w { inbox = remove w.inbox place }

-- how far a worker has come once a piece was offered: where it is next, as far as the piece
abbrev pub moved : Bounds → Offer → List ℕ → List ℕ
moved b (Next after) at = slice_set at b.vb b.to
moved b _ at = at

-- a piece is given to a worker, and changes nothing where it is a repeat or leaves a gap
abbrev pub taken : Bounds → Worker → Worker
taken b w = record w { at = moved b (offer_of (entry w.at b.vb) b.from b.to) w.at }
