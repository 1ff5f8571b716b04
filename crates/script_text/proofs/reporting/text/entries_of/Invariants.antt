use Rattle.std.proofs.Common.{◌≡◌, drop}
use Rattle.serde_json.specs.Data.{no_members}
use Rattle.serde_json.specs.View.{members_view}
use Rattle.script_text.specs.Lines.{with_entries}
use Rattle.script_text.proofs.reporting.text.entries_of.Given as goal

abbrev pub invariant-loop-vb : goal.invariant-loop-vb
invariant-loop-vb l = with_entries l.vb (drop l.vb l.vector) (members_view l.found.entries) ≡ with_entries 0 l.vector no_members
