-- What tells an event among those that may follow one state.
use Rattle.std.specs.Prelude.{◌≡◌, ℕ, List, length, Option, Some, None, ⊤}
use Rattle.scan_history.specs.Events.{Event, publish, client_of}

-- the index and the vector of a publication
abbrev pub publication_of : Event → Option (ℕ × List ℕ)
publication_of (publish i at) = Some (i, at)
publication_of _ = None

-- its client, or else its index and vector
abbrev pub mark_of : Event → Option ℕ × Option (ℕ × List ℕ)
mark_of e = (client_of e, publication_of e)

-- a publication's vector has n entries
abbrev pub IsSizedPublication : ℕ → Event → Type 0
IsSizedPublication n (publish i at) = length at ≡ n
IsSizedPublication n _ = ⊤
