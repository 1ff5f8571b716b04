use Rattle.script_text.specs.SpanForms.{is_range}
use Rattle.script_text.proofs.Entries.{item_answer}
use Rattle.script_text.proofs.reader.values.span_forms.items_are_ranges.Goals as goal

pub returns : goal.returns
returns c = item_answer is_range c.as_slice.result.now c.args.items.now c.each_is_range.result c.each_is_range.ensures c.as_slice.ensures
