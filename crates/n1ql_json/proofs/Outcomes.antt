-- From what `serde_json` answers to the outcome of reading.
use Rattle.std.proofs.Common.{◌≡◌, ℕ, List, Bool, true, false, cond, Option, Some, None, Result, Ok, Err, IfOk, IfErr, refl, ap, ◌∙◌}
use Rattle.std.specs.Str.{IsUtf8, is_utf8}
use Rattle.std.proofs.lemmas.Str.{IsUtf8-from_is_utf8, is_utf8-from_IsUtf8}
use Rattle.serde_json.specs.Data.{Data}
use Rattle.serde_json.specs.Read as serde_json
use Rattle.n1ql_value.specs.declared.datum.Datum.{Datum}
use Rattle.n1ql_value.specs.declared.value.Value.{Value}
use Rattle.n1ql_value.specs.Datum.{datum_of}
use Rattle.n1ql_json.specs.declared.fault.JsonFault.{JsonFault}
use Rattle.n1ql_json.specs.declared.fault.JsonFault.TheVariants.{Syntax, Number, Memory}
use Rattle.n1ql_json.specs.Reads.{value_read, number_checked, syntax_checked, read_of, Gives, IsFault}

gives_checked : (found : Option Datum) (r : Result Value JsonFault) → IfOk r (λ v. found ≡ Some (datum_of v)) → IfErr r (IsFault found) → Gives (number_checked found) r
gives_checked found (Ok v) ok err = ap number_checked ok
gives_checked found (Err Syntax) ok err = absurd err
gives_checked found (Err Number) ok err = ap number_checked err
gives_checked found (Err Memory) ok err = tt

-- what is text and JSON is read as the value that the JSON stands for
pub reads_as : (bytes : List ℕ) (j : Data) → IsUtf8 bytes → serde_json.read bytes ≡ Some j → read_of bytes ≡ number_checked (value_read j)
reads_as bytes j utf8 is = ap syntax_checked (ap (λ (b : Bool). cond b (serde_json.read bytes) None) (is_utf8-from_IsUtf8 bytes utf8) ∙ is)

pub gives_read : (bytes : List ℕ) (j : Data) (r : Result Value JsonFault) → IsUtf8 bytes → serde_json.read bytes ≡ Some j → IfOk r (λ v. value_read j ≡ Some (datum_of v)) → IfErr r (IsFault (value_read j)) → Gives (read_of bytes) r
gives_read bytes j r utf8 is ok err =
    rw (reads_as bytes j utf8 is) (gives_checked (value_read j) r ok err)

refused_by : (bytes : List ℕ) (b : Bool) → is_utf8 bytes ≡ b → (IsUtf8 bytes → serde_json.read bytes ≡ None) → cond b (serde_json.read bytes) None ≡ None
refused_by bytes true is none = none (IsUtf8-from_is_utf8 bytes is)
refused_by bytes false is none = refl

-- what is no text, or no JSON
pub refused : (bytes : List ℕ) → (IsUtf8 bytes → serde_json.read bytes ≡ None) → read_of bytes ≡ Err Syntax
refused bytes none = ap syntax_checked (refused_by bytes (is_utf8 bytes) refl none)
