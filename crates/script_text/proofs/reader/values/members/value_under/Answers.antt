use Rattle.std.specs.Option.{option_copied}
use Rattle.script_text.proofs.Entries.{value_at-found}
use Rattle.script_text.proofs.reader.values.members.value_under.Goals as goal

pub returns : goal.returns
returns c = value_at-found (option_copied c.get.result) c.args.name.now c.args.members.now c.get.ensures
