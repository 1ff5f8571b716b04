use Rattle.std.proofs.Common.{◌∙◌}
use Rattle.std.specs.Prelude.{codes}
use Rattle.n1ql_value.specs.declared.value.Value.TheVariants as value
use Rattle.script_text.proofs.Entries.{value_at-taken}
use Rattle.script_text.proofs.reader.script.command.document_in.Goals as goal

pub returns : goal.returns
returns c = c.unwrap_or.ensures ∙ value_at-taken c.take.result (codes "doc") c.args.members value.Missing c.take.ensures
