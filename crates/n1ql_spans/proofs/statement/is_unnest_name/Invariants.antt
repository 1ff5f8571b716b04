use Rattle.std.proofs.Common.{◌≡◌, drop}
use Rattle.std.specs.Prelude.{bytes_eq}
use Rattle.std.specs.List.{list_any}
use Rattle.n1ql_ast.specs.FormedSelections.{unnest_names}
use Rattle.n1ql_spans.proofs.statement.is_unnest_name.Given as goal

abbrev pub invariant-loop-unnest : goal.invariant-loop-unnest
invariant-loop-unnest l = list_any (bytes_eq l.name) (unnest_names (drop l.unnest-index l.unnests)) ≡ list_any (bytes_eq l.name) (unnest_names l.unnests)
