-- The script that an input is.
use Rattle.std.specs.Prelude.{ℕ, ◌*◌, ◌==◌, nat_lt, List, [], ◌∷◌, ◌++◌, length, map, filter_map, count_by, Bool, true, false, Option, Some, None, Result, Ok, Err, if◌then◌else◌}
use Rattle.std.specs.List.{range_with_len}
use Rattle.n1ql_value.specs.Limits.{max_lines, max_product, max_scans}
use Rattle.scan_history.specs.declared.command.Command.{Command}
use Rattle.scan_history.specs.declared.kind.Kind.{Kind}
use Rattle.scan_history.specs.declared.kind.Kind.TheVariants.{Shape}
use Rattle.scan_history.specs.declared.script.Script.{Script}
use Rattle.scan_history.specs.declared.turn.Turn.{Turn}
use Rattle.scan_history.specs.declared.what.What.{What}
use Rattle.scan_history.specs.declared.what.What.TheVariants.{Lines, Product, Scans}
use Rattle.scan_history.specs.Sound.{is_scan}
use Rattle.script_text.specs.declared.reader.script.header.Header.{Header}
use Rattle.script_text.specs.declared.reader.script.item.Item.{Item}
use Rattle.script_text.specs.declared.reader.script.item.Item.TheVariants as item
use Rattle.script_text.specs.declared.reader.format.sizes.Sizes.{Sizes}
use Rattle.script_text.specs.Input.{lines_of, numbered_after}
use Rattle.script_text.specs.Items.{header_of_line, item_of_line}

-- a script; or the number of the first bad line, and what is wrong with it; or what passed its limit
pub data Outcome : Type 0 where
  script : Script → Outcome
  bad : ℕ → Kind → Outcome
  too_large : What → ℕ → Outcome

-- these items, and then the others
abbrev pub ahead : List Item → Result (List Item) (ℕ × Kind) → Result (List Item) (ℕ × Kind)
ahead items (Ok others) = Ok (items ++ others)
ahead items (Err line) = Err line

-- line n, and then what comes after it
abbrev pub and_then_lines : ℕ → Result Item Kind → Result (List Item) (ℕ × Kind) → Result (List Item) (ℕ × Kind)
and_then_lines n (Ok item) after = ahead (item ∷ []) after
and_then_lines n (Err kind) after = Err (n, kind)

-- what numbered lines say, or the first of them that is bad with its kind
abbrev pub items_from : Sizes → List (ℕ × List ℕ) → Result (List Item) (ℕ × Kind)
items_from sizes [] = Ok []
items_from sizes (line ∷ lines) = and_then_lines line.0 (item_of_line sizes line.1) (items_from sizes lines)

-- the command of a line, where it is one of this client
abbrev pub command_by : ℕ → Item → Option Command
command_by c (item.Command client command) = if client == c then Some command else None
command_by c (item.Turn turn) = None

-- the commands of a client, in the order of its lines
abbrev pub commands_by : ℕ → List Item → List Command
commands_by c items = filter_map (command_by c) items

-- the commands of each client
unfoldable pub lists_of : ℕ → List Item → List (List Command)
lists_of clients items = map (λ c. commands_by c items) (range_with_len 0 clients)

-- the turn of a line, where it is one
abbrev pub turn_in : Item → Option Turn
turn_in (item.Command client command) = None
turn_in (item.Turn turn) = Some turn

-- the schedule, in the order of its lines
unfoldable pub schedule_of : List Item → List Turn
schedule_of items = filter_map turn_in items

abbrev pub script_with : Header → List Item → Script
script_with header items = record {
  vbuckets = header.sizes.vbuckets;
  clients = header.sizes.clients;
  workers = header.workers;
  batch = header.batch;
  keyspace = header.keyspace;
  commands = lists_of header.sizes.clients items;
  schedule = schedule_of items;
}

unfoldable pub is_scan_item : Item → Bool
is_scan_item (item.Command client command) = is_scan command
is_scan_item (item.Turn turn) = false

-- the script, within its limits
unfoldable pub outcome_in_limits : Header → List Item → Outcome
outcome_in_limits header items =
    if nat_lt max_lines (length items) then too_large Lines max_lines
    else if nat_lt max_product (header.sizes.vbuckets * length items) then too_large Product max_product
    else if nat_lt max_scans (count_by is_scan_item items) then too_large Scans max_scans
    else script (script_with header items)

abbrev pub outcome_with_commands : Header → Result (List Item) (ℕ × Kind) → Outcome
outcome_with_commands header (Ok items) = outcome_in_limits header items
outcome_with_commands header (Err line) = bad line.0 line.1

abbrev pub outcome_with_header : ℕ → List (ℕ × List ℕ) → Result Header Kind → Outcome
outcome_with_header n lines (Ok header) = outcome_with_commands header (items_from header.sizes lines)
outcome_with_header n lines (Err kind) = bad n kind

-- all lines that aren't blank, each with its number: the header, and then commands and the schedule
abbrev pub outcome_of : List (ℕ × List ℕ) → Outcome
outcome_of [] = bad 1 Shape
outcome_of (line ∷ lines) = outcome_with_header line.0 lines (header_of_line line.1)

-- the script that an input is
unfoldable pub script_of : List ℕ → Outcome
script_of input = outcome_of (numbered_after 0 (lines_of input))
