use Rattle.std.proofs.Common.{◌≡◌, map, take}
use Rattle.n1ql_ast.specs.ResolvedSelections.{term_in}
use Rattle.n1ql_ast.proofs.select_resolution.resolve_terms.Given as goal

abbrev pub invariant-loop-term : goal.invariant-loop-term
invariant-loop-term l = record {
  terms : l.terms ≡ map (term_in l.fn.scope) (take l.term-index l.unresolved);
  scope : l.scope ≡ l.fn.scope;
}
