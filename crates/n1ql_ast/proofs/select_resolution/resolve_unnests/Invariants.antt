use Rattle.std.proofs.Common.{◌≡◌, ◌++◌, drop}
use Rattle.n1ql_ast.specs.ResolvedSelections.{scope_behind, unnests_in}
use Rattle.n1ql_ast.proofs.select_resolution.resolve_unnests.Given as goal

abbrev pub invariant-loop-unnest : goal.invariant-loop-unnest
invariant-loop-unnest l = record {
  unnests : unnests_in l.fn.scope l.unresolved ≡ l.unnests ++ unnests_in l.scope (drop l.unnest-index l.unresolved);
  scope : scope_behind l.fn.scope l.unresolved ≡ scope_behind l.scope (drop l.unnest-index l.unresolved);
}
