use Rattle.script_text.specs.Rows.{stands_in}
use Rattle.script_text.proofs.Entries.{member_answer}
use Rattle.script_text.proofs.reader.format.shape.all_stand_in.Goals as goal

pub returns : goal.returns
returns c = member_answer (stands_in c.args.row.now) c.as_slice.result.now c.args.members.now c.each_stands_in.result c.each_stands_in.ensures c.as_slice.ensures.pairs
