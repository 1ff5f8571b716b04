use Rattle.std.proofs.Common.{◌≡◌, map, take}
use Rattle.n1ql_spans.specs.Spans.{ranges_of}
use Rattle.n1ql_spans.proofs.spans.ranges_of_keys.Given as goal

abbrev pub invariant-loop-key : goal.invariant-loop-key
invariant-loop-key l = l.found.items ≡ map (ranges_of l.conjuncts) (take l.key-index l.keys)
