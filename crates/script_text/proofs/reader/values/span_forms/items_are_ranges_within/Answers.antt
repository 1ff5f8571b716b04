use Rattle.script_text.specs.SpanForms.{is_range_within}
use Rattle.script_text.proofs.Entries.{item_answer}
use Rattle.script_text.proofs.reader.values.span_forms.items_are_ranges_within.Goals as goal

pub returns : goal.returns
returns c = item_answer is_range_within c.as_slice.result.now c.args.items.now c.each_is_range_within.result c.each_is_range_within.ensures c.as_slice.ensures
