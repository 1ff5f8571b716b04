use Rattle.script_text.specs.SparseVectors.{is_entry_below}
use Rattle.script_text.proofs.Entries.{member_answer}
use Rattle.script_text.proofs.reader.values.sparse_vector.are_entries_below.Goals as goal

pub returns : goal.returns
returns c = member_answer (is_entry_below c.args.end) c.as_slice.result.now c.args.members.now c.each_is_entry_below.result c.each_is_entry_below.ensures c.as_slice.ensures.pairs
