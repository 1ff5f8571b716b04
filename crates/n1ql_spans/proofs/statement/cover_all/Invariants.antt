use Rattle.std.proofs.Common.{◌≡◌, drop}
use Rattle.std.specs.List.{list_all}
use Rattle.n1ql_spans.specs.Covering.{is_covered, plain_keys}
use Rattle.n1ql_spans.proofs.statement.cover_all.Given as goal

abbrev pub invariant-loop-e : goal.invariant-loop-e
invariant-loop-e l = list_all (is_covered (plain_keys l.keys)) (drop l.e-index l.es) ≡ list_all (is_covered (plain_keys l.keys)) l.es
