use Rattle.std.proofs.Common.{◌≡◌, drop}
use Rattle.std.specs.List.{list_all}
use Rattle.n1ql_spans.specs.Covering.{is_covered, plain_keys, rest_of}
use Rattle.n1ql_spans.proofs.statement.cover_rest.Given as goal

abbrev pub invariant-loop-c : goal.invariant-loop-c
invariant-loop-c l = list_all (is_covered (plain_keys l.keys)) (rest_of l.filter (drop l.c-index l.conjuncts)) ≡ list_all (is_covered (plain_keys l.keys)) (rest_of l.filter l.conjuncts)
