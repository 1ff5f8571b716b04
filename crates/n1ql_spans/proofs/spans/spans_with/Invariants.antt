use Rattle.std.proofs.Common.{◌≡◌, ◌∷◌, map, take}
use Rattle.n1ql_spans.proofs.spans.spans_with.Given as goal

abbrev pub invariant-loop-r : goal.invariant-loop-r
invariant-loop-r l = l.spans ≡ map (λ r. r ∷ l.later) (take l.r-index l.leading)
