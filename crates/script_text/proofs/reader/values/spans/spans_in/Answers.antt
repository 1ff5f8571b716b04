use Rattle.script_text.specs.SpanForms.{span_of_value}
use Rattle.script_text.proofs.Values.{turned-more, turned-all}
use Rattle.script_text.proofs.reader.values.spans.spans_in.Goals as goal

pub loop-value-preserved : goal.loop-value-preserved
loop-value-preserved c =
    turned-more span_of_value c.as_slice-value-items.result.now c.loop-value.value-index c.value-item.result c.loop-value.spans c.push.new.self c.in_ok-span.span
    c.loop-value-test.true c.value-item.is c.loop-value.invariant c.in_ok-span.ensures c.in_ok-push.ensures.ok

pub returns : goal.returns
returns c =
    turned-all span_of_value c.as_slice-value-items.result.now c.args.items.now c.loop-value.value-index c.loop-value.spans
    c.loop-value-test.false c.as_slice-value-items.ensures c.loop-value.invariant
