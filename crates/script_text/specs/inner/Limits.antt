-- The limits of a script, in two steps: those on the number of lines, and that on the scans.
use Rattle.std.specs.Prelude.{ℕ, ◌*◌, nat_lt, List, count_by, Option, Some, None, if◌then◌else◌}
use Rattle.n1ql_value.specs.Limits.{max_lines, max_product, max_scans}
use Rattle.scan_history.specs.declared.what.What.TheVariants.{Lines, Product, Scans}
use Rattle.script_text.specs.declared.reader.script.header.Header.{Header}
use Rattle.script_text.specs.declared.reader.script.item.Item.{Item}
use Rattle.script_text.specs.declared.reader.script.script_fault.ScriptFault.{ScriptFault}
use Rattle.script_text.specs.declared.reader.script.script_fault.ScriptFault.TheVariants.{TooLarge}
use Rattle.script_text.specs.Scripts.{Outcome, script, too_large, is_scan_item, script_with}

-- the first limit that so many lines pass, where they pass one
abbrev pub limit_passed : (vbuckets lines : ℕ) → Option ScriptFault
limit_passed vbuckets lines =
    if nat_lt max_lines lines then Some (TooLarge Lines max_lines)
    else if nat_lt max_product (vbuckets * lines) then Some (TooLarge Product max_product)
    else None

-- the script of lines that aren't too many
abbrev pub outcome_within_scans : Header → List Item → Outcome
outcome_within_scans header items =
    if nat_lt max_scans (count_by is_scan_item items) then too_large Scans max_scans
    else script (script_with header items)
