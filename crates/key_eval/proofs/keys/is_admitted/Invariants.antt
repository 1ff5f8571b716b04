use Rattle.std.proofs.Common.{◌≡◌, drop}
use Rattle.std.specs.List.{list_all}
use Rattle.n1ql_value.specs.Kinds.{is_true}
use Rattle.n1ql_ast.specs.Evaluation.{value_of}
use Rattle.n1ql_expr.specs.Scopes.{environment_of}
use Rattle.key_eval.proofs.keys.is_admitted.Given as goal

abbrev pub invariant-loop-e : goal.invariant-loop-e
invariant-loop-e l = list_all (λ e. is_true (value_of e (environment_of l.scope))) (drop l.e-index l.filter) ≡ list_all (λ e. is_true (value_of e (environment_of l.scope))) l.filter
