-- The command that a line gives.
use Rattle.std.specs.Prelude.{ℕ, List, [], ◌∷◌, codes, Option, Some, None, unwrap_or}
use Rattle.std.specs.Option.{option_map_or}
use Rattle.n1ql_value.specs.declared.range.Range.{Range}
use Rattle.n1ql_value.specs.declared.value.Value.TheVariants as value
use Rattle.scan_history.specs.declared.command.Command.{Command}
use Rattle.scan_history.specs.declared.command.Command.TheVariants as command
use Rattle.script_text.specs.declared.reader.format.form.Form.{Form}
use Rattle.script_text.specs.declared.reader.format.form.Form.TheVariants.{Upsert, Delete, Ddl, Scan, Query, Client, Project, Deliver, Lose, Publish, Rewind}
use Rattle.script_text.specs.Members.{Members, value_at, text_at}
use Rattle.script_text.specs.Requests.{ask_of}
use Rattle.script_text.specs.SpanForms.{spans_of_value}

-- the spans of a scan: one without ranges, where nothing is said
abbrev pub spans_at : Members → List (List Range)
spans_at members = option_map_or spans_of_value (value_at (codes "spans") members) ([] ∷ [])

-- the command that a line of a form gives, among n vBuckets
unfoldable pub command_of : ℕ → Form → Members → Option Command
command_of n Upsert members = Some (command.Upsert (text_at (codes "id") [] members) (unwrap_or (value_at (codes "doc") members) value.Missing))
command_of n Delete members = Some (command.Delete (text_at (codes "id") [] members))
command_of n Ddl members = Some (command.Ddl (text_at (codes "q") [] members))
command_of n Scan members = Some (command.Scan (text_at (codes "index") [] members) (spans_at members) (ask_of n members))
command_of n Query members = None
command_of n Client members = None
command_of n Project members = None
command_of n Deliver members = None
command_of n Lose members = None
command_of n Publish members = None
command_of n Rewind members = None
