use Rattle.std.proofs.Common.{◌≡◌, drop}
use Rattle.std.specs.List.{list_any}
use Rattle.std.specs.Str.{bytes_eq}
use Rattle.n1ql_ast.proofs.scope.Scope.binds.Given as goal

abbrev pub invariant-loop-bound : goal.invariant-loop-bound
invariant-loop-bound l = list_any (bytes_eq l.name) (drop l.bound-index l.self.bound) ≡ list_any (bytes_eq l.name) l.self.bound
