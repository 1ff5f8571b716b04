use Rattle.std.proofs.Common.{◌≡◌, map, take}
use Rattle.std.specs.Borrow.{Bor}
use Rattle.n1ql_ast.specs.declared.expr.Expr.{Expr}
use Rattle.n1ql_value.specs.Datum.{datum_of}
use Rattle.n1ql_expr.specs.Scopes.{environment_on}
use Rattle.n1ql_meaning.specs.Results.{value_on}
use Rattle.pipe_rows.specs.Pipes.{alone}
use Rattle.pipe_rows.proofs.plain_results.values_on.Given as goal

abbrev pub invariant-loop-key : goal.invariant-loop-key
invariant-loop-key l = l.values ≡ map (λ (key : Bor Expr). datum_of (value_on (alone (environment_on l.env)) key.now)) (take l.key-index l.keys)
