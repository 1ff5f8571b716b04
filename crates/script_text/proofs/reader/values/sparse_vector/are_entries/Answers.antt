use Rattle.script_text.specs.SparseVectors.{is_entry}
use Rattle.script_text.proofs.Entries.{member_answer}
use Rattle.script_text.proofs.reader.values.sparse_vector.are_entries.Goals as goal

pub returns : goal.returns
returns c = member_answer is_entry c.as_slice.result.now c.args.members.now c.each_is_entry.result c.each_is_entry.ensures c.as_slice.ensures.pairs
