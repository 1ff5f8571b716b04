use Rattle.script_text.proofs.Sound.{read_sound}
use Rattle.script_text.proofs.Limits.{no_input_limit}
use Rattle.script_text.proofs.reader.script.reading.read_script.Goals as goal

pub returns-clause-sound : goal.returns-clause-sound
returns-clause-sound c = read_sound c.new.result c.read_lines.result c.read_lines.ensures

pub returns-clause-limits : goal.returns-clause-limits
returns-clause-limits c = no_input_limit c.new.result c.read_lines.result c.read_lines.ensures
