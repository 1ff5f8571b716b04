-- The kinds of commands that calls of a hub take.
use Rattle.std.specs.Prelude.{ℕ, List, Option, Some, ⊤}
use Rattle.scan_history.specs.declared.command.Command.{Command}
use Rattle.scan_history.specs.declared.command.Command.TheVariants.{Upsert, Delete, Ddl, Scan}

-- a command that puts or deletes a document
abbrev pub IsChange : Option Command → Type 0
IsChange (Some (Upsert id doc)) = ⊤
IsChange (Some (Delete id)) = ⊤
IsChange _ = ⊥

-- a command with a text, of which this holds
abbrev pub OnText : Option Command → (List ℕ → Type 0) → Type 0
OnText (Some (Ddl text)) Holds = Holds text
OnText _ Holds = ⊥

-- a command that asks for the rows of an index
abbrev pub IsRequest : Option Command → Type 0
IsRequest (Some (Scan index spans ask)) = ⊤
IsRequest _ = ⊥
