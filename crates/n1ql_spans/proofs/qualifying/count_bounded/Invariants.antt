use Rattle.std.proofs.Common.{◌≡◌, ◌≤◌, length, take}
use Rattle.std.specs.List.{filter}
use Rattle.n1ql_spans.specs.Fits.{is_bounded}
use Rattle.n1ql_spans.proofs.qualifying.count_bounded.Given as goal

abbrev pub invariant-loop-key : goal.invariant-loop-key
invariant-loop-key l = (l.count ≡ length (filter (is_bounded l.conjuncts) (take l.key-index l.keys))) × (l.count ≤ l.key-index)
