-- What a text of a statement on indexes is.
use Rattle.std.specs.Prelude.{ℕ, List}
use Rattle.n1ql_ast.specs.declared.ddl.Ddl.{Ddl}
use Rattle.n1ql_parse.specs.Readings.{IsReadingDdl}
use Rattle.n1ql_parse.specs.Faults.{IsDdlFaultAt}

-- a statement, or none, with the place of its fault
pub data Read : Type 0 where
  reads : Ddl → Read
  faults : ℕ → Read

abbrev pub IsRead : List ℕ → Read → Type 0
IsRead text (reads statement) = IsReadingDdl text statement
IsRead text (faults at) = IsDdlFaultAt text at

-- it tells of each text what it is; there is one such function, and no other
abbrev pub AreRead : (List ℕ → Read) → Type 0
AreRead read = (text : List ℕ) → IsRead text (read text)
