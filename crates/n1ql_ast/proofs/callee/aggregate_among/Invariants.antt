use Rattle.std.proofs.Common.{◌≡◌, drop, find}
use Rattle.std.specs.Str.{str_eq_ignore_ascii_case}
use Rattle.n1ql_ast.specs.Callees.{aggregate_name}
use Rattle.n1ql_ast.proofs.callee.aggregate_among.Given as goal

abbrev pub invariant-loop-agg : goal.invariant-loop-agg
invariant-loop-agg l =
    find (λ agg. str_eq_ignore_ascii_case l.name (aggregate_name agg)) (drop l.agg-index l.table)
    ≡ find (λ agg. str_eq_ignore_ascii_case l.name (aggregate_name agg)) l.table
