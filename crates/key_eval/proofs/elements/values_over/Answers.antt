use Rattle.std.proofs.Common.{◌≡◌, map, IfOk, subst}
use Rattle.std.specs.List.{filter}
use Rattle.std.specs.Option.{option_map}
use Rattle.n1ql_ast.specs.Evaluation.{passes, value_at_element, value_of}
use Rattle.n1ql_expr.specs.Scopes.{environment_of}
use Rattle.key_eval.proofs.ArrayElements.{elements_found}
use Rattle.key_eval.proofs.elements.values_over.Goals as goal

pub returns-in-Array : goal.returns-in-Array
returns-in-Array c =
    let env = environment_of c.args.scope.now in
    subst (λ es. IfOk c.values_for.result (λ vs. vs.items ≡ map (value_at_element (value_of c.args.item.now) c.args.var.now env) (filter (passes (option_map value_of c.args.when.now) c.args.var.now env) es)))
    (elements_found c.args.over.now c.in-Array.items c.as_slice.result.now c.in-Array.is c.as_slice.ensures) c.values_for.ensures
