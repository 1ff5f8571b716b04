-- A sink in memory.
use Rattle.std.specs.Prelude.{ℕ, List}

-- the bytes held, for how many more there is room already, the most that a call takes, the numbers of the calls that are to fail, and what
-- was counted
pub record MemWrites : Type 0 where
  pub held : List ℕ
  pub room : ℕ
  pub most : ℕ
  pub fails : List ℕ
  pub calls : ℕ
  pub faults : ℕ
