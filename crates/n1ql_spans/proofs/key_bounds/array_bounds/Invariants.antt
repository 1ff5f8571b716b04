use Rattle.std.proofs.Common.{◌≡◌, drop}
use Rattle.n1ql_spans.specs.Spans.{array_bounds}
use Rattle.n1ql_spans.proofs.key_bounds.array_bounds.Given as goal

abbrev pub invariant-loop-c : goal.invariant-loop-c
invariant-loop-c l = array_bounds l.item l.var l.over l.when (drop l.c-index l.conjuncts) ≡ array_bounds l.item l.var l.over l.when l.conjuncts
