use Rattle.std.proofs.Common.{◌≡◌, ◌||◌, not, drop}
use Rattle.std.specs.List.{list_all}
use Rattle.index_def.specs.Reasons.{is_array}
use Rattle.n1ql_spans.specs.Fits.{is_bounded}
use Rattle.n1ql_spans.proofs.qualifying.are_arrays_bounded.Given as goal

abbrev pub invariant-loop-key : goal.invariant-loop-key
invariant-loop-key l = list_all (λ key. not (is_array key) || is_bounded l.conjuncts key) (drop l.key-index l.keys) ≡ list_all (λ key. not (is_array key) || is_bounded l.conjuncts key) l.keys
