use Rattle.std.proofs.Common.{◌≡◌, map, take}
use Rattle.std.specs.List.{filter}
use Rattle.std.specs.Option.{option_map}
use Rattle.n1ql_ast.specs.Evaluation.{passes, value_at_element, value_of}
use Rattle.n1ql_expr.specs.Scopes.{environment_of}
use Rattle.key_eval.proofs.elements.values_for.Given as goal

abbrev pub invariant-loop-element : goal.invariant-loop-element
invariant-loop-element l =
    l.values.items ≡ map (value_at_element (value_of l.item) l.var (environment_of l.scope))
    (filter (passes (option_map value_of l.when) l.var (environment_of l.scope)) (take l.element-index l.elements))
