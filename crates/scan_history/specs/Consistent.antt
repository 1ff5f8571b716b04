-- What holds of the state that a legal history leaves.
use Rattle.std.specs.Prelude.{◌≡◌, ℕ, ◌<◌, ◌≤◌, List, length, Some, slice_get, ⊤}
use Rattle.std.specs.List.{AllByRecursion}
use Rattle.seq_vector.specs.Vectors.{IsCovered, zeros}
use Rattle.vb_store.specs.Mutations.{IsNumbered, high_of}
use Rattle.n1ql_value.specs.Limits.{max_indexes}
use Rattle.index_def.specs.LiveIndexes.{Live, AreNumbered}
use Rattle.scan_history.specs.Fold.{Opened, nothing, work, started, picked, Client, State}

-- a vector with an entry for each vBucket, nowhere above the newest numbers
pub record IsReached (high v : List ℕ) : Type 0 where
  pub size : length v ≡ length high
  pub below : IsCovered v high

-- what is open began on indexes that were made, at numbers that were reached
abbrev pub IsOpenSince : List ℕ → ℕ → Opened → Type 0
IsOpenSince high made nothing = ⊤
IsOpenSince high made (work indexes since) = AllByRecursion (λ i. i < made) indexes × IsReached high since
IsOpenSince high made (started i demand since) = (i < made) × IsReached high since
IsOpenSince high made (picked i at) = (i < made) × IsReached high at

-- what a client has seen and wrote was reached
pub record IsPart (high : List ℕ) (made : ℕ) (part : Client) : Type 0 where
  pub opened : IsOpenSince high made part.opened
  pub seen : IsReached high part.seen
  pub wrote : IsReached high part.wrote

-- The mutations are numbered. No more indexes were made than there may be; the live ones stand by number, each with its definition.
-- What was published was reached, and before an index is made nothing of its number was. So is each client's part.
pub record IsConsistent (n : ℕ) (s : State) : Type 0 where
  pub log : IsNumbered n s.log
  pub made : length s.defs ≤ max_indexes
  pub live : AreNumbered 0 (length s.defs) s.live
  pub defs : AllByRecursion (λ (index : Live). slice_get s.defs index.number ≡ Some index.def) s.live
  pub published : (i : ℕ) → IsReached (high_of n s.log) (s.published i)
  pub unpublished : (i : ℕ) → length s.defs ≤ i → s.published i ≡ zeros n
  pub client : (c : ℕ) → IsPart (high_of n s.log) (length s.defs) (s.client c)
