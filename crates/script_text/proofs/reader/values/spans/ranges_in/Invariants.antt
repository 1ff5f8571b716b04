use Rattle.std.proofs.Common.{◌≡◌, map, take}
use Rattle.script_text.specs.SpanForms.{range_of_value}
use Rattle.script_text.proofs.reader.values.spans.ranges_in.Given as goal

abbrev pub invariant-loop-value : goal.invariant-loop-value
invariant-loop-value l = l.span ≡ map range_of_value (take l.value-index l.value-items)
