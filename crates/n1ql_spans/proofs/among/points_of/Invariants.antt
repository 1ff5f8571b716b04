use Rattle.std.proofs.Common.{◌≡◌, map}
use Rattle.n1ql_spans.specs.Bounding.{point}
use Rattle.n1ql_spans.proofs.among.points_of.Given as goal

abbrev pub invariant-loop-value : goal.invariant-loop-value
invariant-loop-value l = l.points ≡ map point l.yielded
