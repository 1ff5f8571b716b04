use Rattle.std.proofs.Common.{◌≡◌, ◌∷◌, take}
use Rattle.n1ql_spans.proofs.spans.span.Given as goal

abbrev pub invariant-loop-r : goal.invariant-loop-r
invariant-loop-r l = l.span ≡ l.leading ∷ take l.r-index l.later
