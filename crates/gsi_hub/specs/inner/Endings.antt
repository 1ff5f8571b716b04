-- What the building of indexes may end with, for private clauses.
use Rattle.std.specs.Prelude.{◌≡◌, ◌≢◌, ℕ, min, List, [], None}
use Rattle.std.specs.List.{AllByRecursion}
use Rattle.seq_vector.specs.Vectors.{IsCovered}
use Rattle.index_def.specs.LiveIndexes.{numbered}
use Rattle.scan_history.specs.Fold.{State}
use Rattle.scan_history.specs.Legal.{IfLive, live_among}
use Rattle.gsi_hub.specs.declared.ending.Ending.{Ending}
use Rattle.gsi_hub.specs.declared.ending.Ending.TheVariants.{Dropped, Lags, Covered}
use Rattle.gsi_hub.specs.Outcomes.{IsLeastThatLags}
use Rattle.gsi_hub.specs.Outcomes.{Lags as LagsAt}

abbrev pub IsEnding : State → (indexes high : List ℕ) → Ending → Type 0
IsEnding s indexes high Dropped = live_among indexes s ≡ []
IsEnding s indexes high (Lags i) = IsLeastThatLags s high (live_among indexes s) i
IsEnding s indexes high Covered = (live_among indexes s ≢ []) × AllByRecursion (λ i. IsCovered high (s.published i)) (live_among indexes s)

-- the same of one index
abbrev pub IsEndingAt : State → (i : ℕ) → (high : List ℕ) → Ending → Type 0
IsEndingAt s i high Dropped = numbered i s.live ≡ None
IsEndingAt s i high (Lags j) = (j ≡ i) × IfLive i s (λ index. LagsAt s high i)
IsEndingAt s i high Covered = IfLive i s (λ index. IsCovered high (s.published i))

-- what two lists come to together
abbrev pub merged : Ending → Ending → Ending
merged Dropped other = other
merged Covered (Lags i) = Lags i
merged Covered _ = Covered
merged (Lags i) (Lags j) = Lags (min i j)
merged (Lags i) _ = Lags i
