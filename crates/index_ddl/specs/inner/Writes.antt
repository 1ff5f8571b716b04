-- Writes at a place, as the code makes them.
use Rattle.std.specs.Prelude.{ℕ, zero, suc, ◌==◌, ◌++◌, List, [], ◌∷◌, if◌then◌else◌}
use Rattle.std.specs.List.{list_any}
use Rattle.n1ql_value.specs.declared.state.State.{State}
use Rattle.index_def.specs.LiveIndexes.{Live, with_state}

-- the index at this place in another state
abbrev pub in_state_at : ℕ → State → List Live → List Live
in_state_at at state [] = []
in_state_at zero state (index ∷ live) = with_state state index ∷ live
in_state_at (suc at) state (index ∷ live) = index ∷ in_state_at at state live

-- a number behind the others, unless it is there
abbrev pub added_once : List ℕ → ℕ → List ℕ
added_once ns n = (if list_any (λ m. m == n) ns then ns else ns ++ n ∷ [])
