-- What a publication has to cover to answer a request.
use Rattle.std.specs.Prelude.{◌≡◌, ℕ, List, length, ⊤}
use Rattle.seq_vector.specs.Vectors.{join, zeros}
use Rattle.scan_coord.specs.declared.demand.Demand.{Demand}
use Rattle.scan_coord.specs.declared.demand.Demand.TheVariants.{NotBounded, AtPlus, Mine, RequestPlus}
use Rattle.scan_coord.specs.declared.session.Session.{Session}

-- a vector in a demand has n entries
abbrev pub IsSized : ℕ → Demand → Type 0
IsSized n (AtPlus at) = length at ≡ n
IsSized n _ = ⊤

-- what a request asks for by itself: nothing; the vector that it gives; the highest numbers that its client wrote; the
-- newest numbers of all
abbrev pub base_of : Demand → Session → List ℕ → List ℕ
base_of NotBounded session high = zeros (length high)
base_of (AtPlus at) session high = at
base_of Mine session high = session.wrote
base_of RequestPlus session high = high

-- that, and all that its client has seen
abbrev pub wanted_of : Demand → Session → List ℕ → List ℕ
wanted_of demand session high = join session.seen (base_of demand session high)
