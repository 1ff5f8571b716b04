-- The value of a JSON text.
use Rattle.std.specs.Prelude.{◌≡◌, ℕ, List, [], ◌∷◌, Option, Some, None, option_map, option_and_then, Result, Ok, Err, if◌then◌else◌, ⊤}
use Rattle.std.specs.Str.{is_utf8}
use Rattle.serde_json.specs.Data.{Data, null, boolean, number, string, array, object, Items, no_items, item, Members, no_members, member}
use Rattle.serde_json.specs.Find.{as_i64}
use Rattle.serde_json.specs.Read as serde_json
use Rattle.n1ql_value.specs.declared.datum.Datum.{Datum}
use Rattle.n1ql_value.specs.declared.datum.Datum.TheVariants as datum
use Rattle.n1ql_value.specs.declared.value.Value.{Value}
use Rattle.n1ql_value.specs.Datum.{datum_of}
use Rattle.n1ql_json.specs.declared.fault.JsonFault.{JsonFault}
use Rattle.n1ql_json.specs.declared.fault.JsonFault.TheVariants.{Syntax, Number, Memory}

-- the value that JSON stands for, None where some number in it is no integer of 64 bits with a sign
abbrev mutual
  pub value_read : Data → Option Datum
  value_read null = Some datum.Null
  value_read (boolean b) = Some (datum.Bool b)
  value_read (number n) = option_map datum.Int (as_i64 n)
  value_read (string s) = Some (datum.Text s)
  value_read (array ds) = option_map datum.Array (items_read ds)
  value_read (object ms) = option_map datum.Object (members_read ms)

  pub items_read : Items → Option (List Datum)
  items_read no_items = Some []
  items_read (item j ds) = option_and_then (λ d. option_map (λ rest. d ∷ rest) (items_read ds)) (value_read j)

  pub members_read : Members → Option (List (List ℕ × Datum))
  members_read no_members = Some []
  members_read (member k j ms) = option_and_then (λ d. option_map (λ rest. (k, d) ∷ rest) (members_read ms)) (value_read j)

-- what the bytes stand for in JSON, None where they are no text or the text isn't JSON; of a repeated name the last counts
abbrev pub json_read : List ℕ → Option Data
json_read bytes = if is_utf8 bytes then serde_json.read bytes else None

abbrev pub number_checked : Option Datum → Result Datum JsonFault
number_checked None = Err Number
number_checked (Some d) = Ok d

abbrev pub syntax_checked : Option Data → Result Datum JsonFault
syntax_checked None = Err Syntax
syntax_checked (Some j) = number_checked (value_read j)

-- the value of the bytes, or what is wrong with them: Syntax before Number
abbrev pub read_of : List ℕ → Result Datum JsonFault
read_of bytes = syntax_checked (json_read bytes)

-- the answer is the outcome that was told, unless memory ran out
abbrev pub Gives : Result Datum JsonFault → Result Value JsonFault → Type 0
Gives outcome (Ok v) = outcome ≡ Ok (datum_of v)
Gives outcome (Err Memory) = ⊤
Gives outcome (Err Syntax) = outcome ≡ Err Syntax
Gives outcome (Err Number) = outcome ≡ Err Number

-- a tree of JSON fails so: with Number where it stands for no value, or because memory ran out, and never with Syntax
abbrev pub IsFault : {A : Type 0} → Option A → JsonFault → Type 0
IsFault found Memory = ⊤
IsFault found Number = found ≡ None
IsFault found Syntax = ⊥
