use Rattle.std.proofs.Common.{◌≡◌, drop}
use Rattle.std.specs.List.{list_any}
use Rattle.std.specs.Str.{bytes_eq}
use Rattle.n1ql_ast.specs.FormedSelections.{unnest_names}
use Rattle.pipe_rows.proofs.object.is_unnested.Given as goal

abbrev pub invariant-loop-unnest : goal.invariant-loop-unnest
invariant-loop-unnest l = list_any (bytes_eq l.name) (unnest_names (drop l.unnest-index l.unnests)) ≡ list_any (bytes_eq l.name) (unnest_names l.unnests)
