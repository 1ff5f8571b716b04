use Rattle.std.proofs.Common.{◌≡◌, take}
use Rattle.n1ql_spans.specs.Spans.{bounds_in}
use Rattle.n1ql_spans.proofs.key_bounds.bounds_in.Given as goal

abbrev pub invariant-loop-c : goal.invariant-loop-c
invariant-loop-c l = l.bounds.items ≡ bounds_in l.e (take l.c-index l.conjuncts)
