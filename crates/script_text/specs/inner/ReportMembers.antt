-- The members of a line of the report as the code has them.
use Rattle.std.specs.Prelude.{ℕ, List, map, decimal}
use Rattle.std.specs.Borrow.{Bor}
use Rattle.json.specs.Print.{quoted}
use Rattle.script_text.specs.declared.reporting.member.ReportValue.{ReportValue}
use Rattle.script_text.specs.declared.reporting.member.ReportValue.TheVariants as value
use Rattle.script_text.specs.Lines.{word, array_of, member_text, vector_text}

-- the text of a value
abbrev pub value_text : ReportValue → List ℕ
value_text (value.Number n) = decimal n
value_text (value.Word w) = word w.now
value_text (value.Quoted t) = quoted t.now
value_text (value.Entries v) = vector_text v.now
value_text (value.Numbers ns) = array_of (map decimal ns.now)
value_text (value.Json t) = t.now

-- a name with the text of its value
abbrev pub named_text : Bor (List ℕ) × ReportValue → List ℕ × List ℕ
named_text m = (m.0.now, value_text m.1)

-- its text
abbrev pub written : Bor (List ℕ) × ReportValue → List ℕ
written m = member_text (named_text m)

abbrev pub named_texts : List (Bor (List ℕ) × ReportValue) → List (List ℕ × List ℕ)
named_texts ms = map named_text ms
