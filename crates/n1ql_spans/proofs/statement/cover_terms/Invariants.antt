use Rattle.std.proofs.Common.{◌≡◌, drop}
use Rattle.std.specs.List.{list_all}
use Rattle.n1ql_ast.specs.FormedSelections.{unnest_names}
use Rattle.n1ql_spans.specs.Covering.{is_covered_term, plain_keys}
use Rattle.n1ql_spans.proofs.statement.cover_terms.Given as goal

abbrev pub invariant-loop-term : goal.invariant-loop-term
invariant-loop-term l = list_all (is_covered_term (plain_keys l.keys) (unnest_names l.unnests)) (drop l.term-index l.terms) ≡ list_all (is_covered_term (plain_keys l.keys) (unnest_names l.unnests)) l.terms
