-- What was written of a report.
use Rattle.std.specs.Prelude.{◌≡◌, ℕ, List, take, Option, Result, MatchResult}
use Rattle.std.specs.Io.KnownBytes.{Appends}
use Rattle.gsi_main.specs.Faults.{Rose}

-- some prefix of these bytes was appended
abbrev pub AppendsPrefix : Option (List ℕ) → Option (List ℕ) → List ℕ → Type 0
AppendsPrefix held held' bytes = (n : ℕ) × Appends held held' (take n bytes)

-- a write appended the first n bytes of the piece at `Ok(n)`, and a prefix of it at `Err`
abbrev pub Writes : {E : Type 0} → Option (List ℕ) → Option (List ℕ) → Result ℕ E → List ℕ → Type 0
Writes held held' result piece = MatchResult result (λ n. Appends held held' (take n piece)) (λ _. AppendsPrefix held held' piece)

-- the whole report was written, and no write failed
pub record WroteWhole (held held' : Option (List ℕ)) (faults faults' : ℕ) (report : List ℕ) : Type 0 where
  pub appended : Appends held held' report
  pub kept : faults' ≡ faults

-- a prefix of the report was written, and a write failed
pub record WrotePart (held held' : Option (List ℕ)) (faults faults' : ℕ) (report : List ℕ) : Type 0 where
  pub appended : AppendsPrefix held held' report
  pub rose : Rose faults faults'
