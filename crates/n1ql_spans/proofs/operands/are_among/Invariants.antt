use Rattle.std.proofs.Common.{◌≡◌, drop}
use Rattle.n1ql_spans.specs.Spans.{are_among}
use Rattle.n1ql_spans.proofs.operands.are_among.Given as goal

abbrev pub invariant-loop-e : goal.invariant-loop-e
invariant-loop-e l = are_among l.others (drop l.e-index l.es) ≡ are_among l.others l.es
