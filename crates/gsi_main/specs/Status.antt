-- How a call ends.
use Rattle.std.specs.Prelude.{ℕ}
use Rattle.gsi_main.specs.declared.status.Status.{Status}
use Rattle.gsi_main.specs.declared.status.Status.TheVariants.{Done, Words, Script, ReadFault, WriteFault, Memory, TooLarge}

-- the exit status of the program
abbrev pub code_of : Status → ℕ
code_of Done = 0
code_of Words = 2
code_of (Script line kind) = 3
code_of ReadFault = 4
code_of WriteFault = 5
code_of Memory = 6
code_of (TooLarge what limit) = 7
