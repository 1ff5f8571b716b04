use Rattle.std.proofs.Common.{◌≡◌, map, take}
use Rattle.n1ql_ast.specs.Names.{resolved}
use Rattle.n1ql_ast.proofs.resolution.+resolve.Given as goal

abbrev pub invariant-parts-loop-unresolved : goal.invariant-parts-loop-unresolved
invariant-parts-loop-unresolved l = record {
  exprs : l.exprs ≡ map (λ x. resolved x l.fn.scope) (take l.unresolved-index l.unresolved_exprs);
  scope : l.scope ≡ l.fn.scope;
}
