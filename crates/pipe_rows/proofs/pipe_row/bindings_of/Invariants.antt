use Rattle.std.proofs.Common.{◌≡◌, map, take}
use Rattle.n1ql_expr.specs.Scopes.{named}
use Rattle.pipe_rows.specs.Pipes.{bound_pair}
use Rattle.pipe_rows.proofs.pipe_row.bindings_of.Given as goal

abbrev pub invariant-loop-element : goal.invariant-loop-element
invariant-loop-element l = map named l.bound.items ≡ map bound_pair (take l.element-index l.elements)
