use Rattle.std.proofs.Common.{◌≡◌, drop}
use Rattle.n1ql_spans.specs.Spans.{is_among}
use Rattle.n1ql_spans.proofs.operands.is_among.Given as goal

abbrev pub invariant-loop-other : goal.invariant-loop-other
invariant-loop-other l = is_among (drop l.other-index l.others) l.e ≡ is_among l.others l.e
