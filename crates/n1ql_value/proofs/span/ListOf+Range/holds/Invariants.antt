use Rattle.std.proofs.Common.{◌≡◌, drop}
use Rattle.n1ql_value.specs.Ranges.{span_holds}
use Rattle.n1ql_value.proofs.span.ListOf+Range.holds.Given as goal

abbrev pub invariant-loop-place : goal.invariant-loop-place
invariant-loop-place l = span_holds (drop l.place l.range-items) (drop l.place l.row.keys) ≡ span_holds l.self l.row.keys
