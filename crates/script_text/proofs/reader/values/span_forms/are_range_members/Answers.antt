use Rattle.script_text.specs.SpanForms.{is_range_member}
use Rattle.script_text.proofs.Entries.{member_answer}
use Rattle.script_text.proofs.reader.values.span_forms.are_range_members.Goals as goal

pub returns : goal.returns
returns c = member_answer is_range_member c.as_slice.result.now c.args.members.now c.each_is_range_member.result c.each_is_range_member.ensures c.as_slice.ensures.pairs
