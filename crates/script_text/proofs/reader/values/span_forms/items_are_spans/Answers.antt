use Rattle.script_text.specs.SpanForms.{is_span}
use Rattle.script_text.proofs.Entries.{item_answer}
use Rattle.script_text.proofs.reader.values.span_forms.items_are_spans.Goals as goal

pub returns : goal.returns
returns c = item_answer is_span c.as_slice.result.now c.args.items.now c.each_is_span.result c.each_is_span.ensures c.as_slice.ensures
