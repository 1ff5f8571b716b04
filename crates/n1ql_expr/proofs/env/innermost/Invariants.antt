use Rattle.std.proofs.Common.{◌≡◌, take}
use Rattle.n1ql_value.specs.Names.{under_name}
use Rattle.n1ql_expr.specs.Scopes.{innermost_first}
use Rattle.n1ql_expr.proofs.env.innermost.Given as goal

abbrev pub invariant-loop-at : goal.invariant-loop-at
invariant-loop-at l = under_name l.name (innermost_first (take l.at l.bound)) ≡ under_name l.name (innermost_first l.bound)
