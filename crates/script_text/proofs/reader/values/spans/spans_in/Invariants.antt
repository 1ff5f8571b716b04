use Rattle.std.proofs.Common.{◌≡◌, map, take}
use Rattle.script_text.specs.SpanForms.{span_of_value}
use Rattle.script_text.proofs.reader.values.spans.spans_in.Given as goal

abbrev pub invariant-loop-value : goal.invariant-loop-value
invariant-loop-value l = l.spans ≡ map span_of_value (take l.value-index l.value-items)
