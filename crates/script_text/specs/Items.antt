-- What a line says: the header, or a command of a client, or a turn of the schedule; else the first kind of what is wrong with it.
use Rattle.std.specs.Prelude.{ℕ, pos, List, codes, Bool, not, Option, option_map, Result, Ok, Err, if◌then◌else◌}
use Rattle.std.specs.Option.{option_or, ok_or}
use Rattle.std.specs.Ordering.{int_eq}
use Rattle.n1ql_value.specs.declared.datum.Datum.{Datum}
use Rattle.n1ql_value.specs.Datum.{value_of}
use Rattle.n1ql_json.specs.declared.fault.JsonFault.{JsonFault}
use Rattle.n1ql_json.specs.declared.fault.JsonFault.TheVariants as json
use Rattle.n1ql_json.specs.Reads.{read_of}
use Rattle.scan_history.specs.declared.kind.Kind.{Kind}
use Rattle.scan_history.specs.declared.kind.Kind.TheVariants.{Syntax, Number, Version, Shape, Range as OutOfRange, Unbuilt}
use Rattle.script_text.specs.declared.reader.format.form.Form.{Form}
use Rattle.script_text.specs.declared.reader.script.header.Header.{Header}
use Rattle.script_text.specs.declared.reader.script.item.Item.{Item}
use Rattle.script_text.specs.declared.reader.script.item.Item.TheVariants as item
use Rattle.script_text.specs.declared.reader.format.sizes.Sizes.{Sizes}
use Rattle.n1ql_value.specs.Kinds.{object_in}
use Rattle.script_text.specs.Members.{Members, text_at, number_at, count_at}
use Rattle.script_text.specs.Commands.{command_of}
use Rattle.script_text.specs.Turns.{turn_of}
use Rattle.script_text.specs.Rows.{form_of, row_of, header_row, has_shape, is_within}

-- what comes of what a reading gave
abbrev pub and_then : {A B : Type 0} → (A → Result B Kind) → Result A Kind → Result B Kind
and_then f (Ok a) = f a
and_then f (Err kind) = Err kind

-- the members of the object that a line is
abbrev pub members_in : Result Datum JsonFault → Result Members Kind
members_in (Ok d) = ok_or (object_in (value_of d)) Shape
members_in (Err json.Syntax) = Err Syntax
members_in (Err json.Number) = Err Number
members_in (Err json.Memory) = Err Syntax

unfoldable pub members_of : List ℕ → Result Members Kind
members_of line = members_in (read_of line)

-- what the header says
abbrev pub header_with : Members → Header
header_with members = record {
  sizes = record { vbuckets = count_at (codes "vbuckets") 0 members; clients = count_at (codes "clients") 0 members };
  workers = count_at (codes "workers") 2 members;
  batch = count_at (codes "batch") 64 members;
  keyspace = text_at (codes "keyspace") (codes "ks") members;
}

-- `gsi` is a whole number other than 1
abbrev pub is_other_version : Members → Bool
is_other_version members = not (int_eq (number_at (codes "gsi") (pos 1) members) (pos 1))

-- the header's row has no sizes in it
abbrev pub no_sizes : Sizes
no_sizes = record { vbuckets = 0; clients = 0 }

unfoldable pub header_checked : Members → Result Header Kind
header_checked members =
    if is_other_version members then Err Version
    else if not (has_shape header_row members) then Err Shape
    else if not (is_within no_sizes header_row members) then Err OutOfRange
    else Ok (header_with members)

unfoldable pub header_of_line : List ℕ → Result Header Kind
header_of_line line = and_then header_checked (members_of line)

-- a turn, or a command with the client that it is of
unfoldable pub item_of : ℕ → Form → Members → Option Item
item_of n form members =
    option_or (option_map item.Turn (turn_of n form members))
    (option_map (item.Command (count_at (codes "c") 0 members)) (command_of n form members))

-- a line of a form; queries aren't built yet
unfoldable pub item_checked : Sizes → Form → Members → Result Item Kind
item_checked sizes form members =
    if not (has_shape (row_of form) members) then Err Shape
    else if not (is_within sizes (row_of form) members) then Err OutOfRange
    else ok_or (item_of sizes.vbuckets form members) Unbuilt

abbrev pub item_by_form : Sizes → Members → Result Item Kind
item_by_form sizes members = and_then (λ form. item_checked sizes form members) (ok_or (form_of members) Shape)

unfoldable pub item_of_line : Sizes → List ℕ → Result Item Kind
item_of_line sizes line = and_then (item_by_form sizes) (members_of line)
