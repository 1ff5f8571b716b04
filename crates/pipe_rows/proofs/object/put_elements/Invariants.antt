use Rattle.std.proofs.Common.{◌≡◌, map, take}
use Rattle.std.specs.List.{fold}
use Rattle.n1ql_value.specs.Constructors.{with_given}
use Rattle.n1ql_value.specs.Datum.{datum_of}
use Rattle.n1ql_ast.specs.FormedSelections.{unnest_names}
use Rattle.n1ql_expr.specs.Scopes.{environment_on}
use Rattle.n1ql_meaning.specs.Results.{bound_to}
use Rattle.pipe_rows.proofs.object.put_elements.Given as goal

abbrev pub invariant-loop-unnest : goal.invariant-loop-unnest
invariant-loop-unnest l = l.pairs ≡ fold with_given l.initial.pairs (map (λ name. (name, datum_of (bound_to name (environment_on l.env)))) (unnest_names (take l.unnest-index l.unnests)))
