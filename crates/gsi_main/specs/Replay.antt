-- What the top call `gsi_replay` does.
use Rattle.std.specs.Prelude.{◌≡◌, ℕ, ◌≤◌, List, [], ◌∷◌, codes, length, ⊤, Option}
use Rattle.std.specs.Io.KnownBytes.{Appends, Consumes, IsAtEnd}
use Rattle.n1ql_value.specs.Limits.{max_input_bytes}
use Rattle.gsi_main.specs.declared.status.Status.{Status}
use Rattle.gsi_main.specs.declared.status.Status.TheVariants.{Done, Words, Script, ReadFault, WriteFault, Memory, TooLarge}
use Rattle.script_text.specs.Scripts.{Outcome, bad, too_large, script_of}
use Rattle.gsi_main.specs.Answer.{IsScript, IsReportOf}
use Rattle.gsi_main.specs.Writing.{AppendsPrefix}

-- the one word `replay`
abbrev pub IsReplay : List (List ℕ) → Type 0
IsReplay words = words ≡ codes "replay" ∷ []

-- the status is that of the outcome, where the calls of the source and the sink succeed and memory is found
abbrev pub IsFor : Status → Outcome → Type 0
IsFor Done outcome = IsScript outcome
IsFor Words outcome = ⊥
IsFor (Script line kind) outcome = outcome ≡ bad line kind
IsFor ReadFault outcome = ⊤
IsFor WriteFault outcome = IsScript outcome
IsFor Memory outcome = ⊤
IsFor (TooLarge what limit) outcome = outcome ≡ too_large what limit

-- some bytes within the limit were consumed to the end of the source, and the report of them was appended
pub record Replayed (left left' held held' : Option (List ℕ)) : Type 0 where
  pub input : List ℕ
  pub fits : length input ≤ max_input_bytes
  pub consumed : Consumes left left' input
  pub at_end : IsAtEnd left'
  pub text : List ℕ
  pub is_report : IsReportOf input text
  pub appended : Appends held held' text

-- some bytes within the limit were consumed to the end of the source, and a prefix of the report of them was appended
pub record PartlyReplayed (left left' held held' : Option (List ℕ)) : Type 0 where
  pub input : List ℕ
  pub fits : length input ≤ max_input_bytes
  pub consumed : Consumes left left' input
  pub at_end : IsAtEnd left'
  pub text : List ℕ
  pub is_report : IsReportOf input text
  pub appended : AppendsPrefix held held' text

-- some bytes within the limit were consumed to the end of the source, and this is what they are
pub record TookWhole (left left' : Option (List ℕ)) (outcome : Outcome) : Type 0 where
  pub input : List ℕ
  pub fits : length input ≤ max_input_bytes
  pub consumed : Consumes left left' input
  pub at_end : IsAtEnd left'
  pub is : script_of input ≡ outcome
