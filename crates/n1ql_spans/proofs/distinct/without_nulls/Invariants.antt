use Rattle.std.proofs.Common.{◌≡◌, not, take}
use Rattle.std.specs.List.{filter}
use Rattle.n1ql_value.specs.Kinds.{is_null}
use Rattle.n1ql_spans.proofs.distinct.without_nulls.Given as goal

abbrev pub invariant-loop-value : goal.invariant-loop-value
invariant-loop-value l = l.kept.items ≡ filter (λ v. not (is_null v)) (take l.value-index l.values)
