-- The texts of answers.
use Rattle.std.specs.Prelude.{◌≡◌, ⊤, ℕ, List, length, map, nat_le, Option, Some, None, if◌then◌else◌}
use Rattle.n1ql_value.specs.declared.datum.Datum.{Datum}
use Rattle.n1ql_value.specs.declared.datum.Datum.TheVariants as datum
use Rattle.n1ql_value.specs.declared.value.Value.{Value}
use Rattle.n1ql_value.specs.Datum.{datum_of}
use Rattle.n1ql_value.specs.Limits.{max_answer_bytes}
use Rattle.n1ql_json.specs.Json.{text_of}
use Rattle.query_run.specs.declared.run_fault.RunFault.{RunFault}
use Rattle.query_run.specs.declared.run_fault.RunFault.TheVariants.{TooLarge, Memory}

-- a list as JSON
abbrev pub list_text : List Datum → List ℕ
list_text ds = text_of (datum.Array ds)

-- the results of a statement as JSON, in their order; one that is MISSING stands as null
abbrev pub results_text : List Value → List ℕ
results_text vs = list_text (map datum_of vs)

-- a text that isn't too large for an answer
abbrev pub within : List ℕ → Option (List ℕ)
within text = (if nat_le (length text) max_answer_bytes then Some text else None)

-- what a fault says of the text of an answer; want of memory says nothing
abbrev pub IsTooLarge : List ℕ → RunFault → Type 0
IsTooLarge text TooLarge = within text ≡ None
IsTooLarge text Memory = ⊤
