-- What was read of an input.
use Rattle.std.specs.Prelude.{◌≡◌, ℕ, ◌+◌, ◌<◌, ◌≤◌, List, ◌++◌, length, Option, IfSome}
use Rattle.std.specs.Io.KnownBytes.{Consumes, IsAtEnd}

-- these bytes were read, then the end of the input was found, and no read failed
pub record ReadWhole (limit : ℕ) (left left' : Option (List ℕ)) (faults faults' : ℕ) (bytes : List ℕ) : Type 0 where
  pub fits : length bytes ≤ limit
  pub consumed : Consumes left left' bytes
  pub input : IfSome left (λ all. all ≡ bytes)
  pub at_end : IsAtEnd left'
  pub kept : faults' ≡ faults

-- one byte past the limit was taken
abbrev pub TookPast : ℕ → Option (List ℕ) → Option (List ℕ) → Type 0
TookPast limit left left' = (bytes : List ℕ) × (length bytes ≡ limit + 1) × Consumes left left' bytes

-- one byte past the limit was read, and no read failed
pub record ReadPast (limit : ℕ) (left left' : Option (List ℕ)) (faults faults' : ℕ) : Type 0 where
  pub input : IfSome left (λ all. limit < length all)
  pub taken : TookPast limit left left'
  pub kept : faults' ≡ faults

-- n more bytes, no more than there was room for, were read and stand behind the others; none only at the end
pub record TookPiece (room : ℕ) (left left' : Option (List ℕ)) (faults faults' : ℕ) (bytes bytes' : List ℕ) (n : ℕ) : Type 0 where
  pub piece : List ℕ
  pub length_is : length piece ≡ n
  pub fits : n ≤ room
  pub consumed : Consumes left left' piece
  pub behind : bytes' ≡ bytes ++ piece
  pub at_end : n ≡ 0 → IsAtEnd left'
  pub kept : faults' ≡ faults
