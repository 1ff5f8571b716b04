-- A source in memory.
use Rattle.std.specs.Prelude.{ℕ, min, List, length}

-- the bytes left, the most that a call gives, the numbers of the calls that are to fail, and what was counted
pub record MemReads : Type 0 where
  pub left : List ℕ
  pub most : ℕ
  pub fails : List ℕ
  pub calls : ℕ
  pub faults : ℕ

-- how many bytes a read into a buffer of this length gives
abbrev pub given : MemReads → ℕ → ℕ
given s room = min (min s.most room) (length s.left)
