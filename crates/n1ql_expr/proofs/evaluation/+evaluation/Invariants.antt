use Rattle.std.proofs.Common.{◌≡◌, ◌+◌, ◌*◌, Some, map, max, take, drop}
use Rattle.std.specs.List.{filter, find, list_all}
use Rattle.std.specs.Option.{option_copied, option_map}
use Rattle.n1ql_ast.specs.Evaluation.{elements_given, first_case, passes, value_at_element, value_of, values_in}
use Rattle.n1ql_expr.specs.Scopes.{environment_of}
use Rattle.n1ql_expr.proofs.Parts.{weight, weight_of_all, weight_if_any}
use Rattle.n1ql_expr.proofs.evaluation.+evaluation.Given as goal

abbrev pub invariant-all-loop-part : goal.invariant-all-loop-part
invariant-all-loop-part l = l.values.items ≡ values_in (map value_of (take l.part-index l.parts)) (environment_of l.scope)

abbrev pub invariant-case-loop-at : goal.invariant-case-loop-at
invariant-case-loop-at l =
    let env = environment_of l.scope in
    first_case (values_in (map value_of (drop l.at l.whens)) env) (values_in (map value_of (drop l.at l.thens)) env)
    ≡ first_case (values_in (map value_of l.whens) env) (values_in (map value_of l.thens) env)

abbrev pub invariant-first_passing-loop-value : goal.invariant-first_passing-loop-value
invariant-first_passing-loop-value l =
    let pass = passes (option_map value_of (option_copied l.when)) l.name (environment_of l.scope) in
    find pass (drop l.value-index l.items) ≡ find pass l.items

abbrev pub invariant-all_pass-loop-value : goal.invariant-all_pass-loop-value
invariant-all_pass-loop-value l =
    let pass = passes (Some (value_of l.test)) l.name (environment_of l.scope) in
    list_all pass (drop l.value-index l.items) ≡ list_all pass l.items

abbrev pub invariant-listed-loop-value : goal.invariant-listed-loop-value
invariant-listed-loop-value l =
    let pass = passes (option_map value_of (option_copied l.when)) l.name (environment_of l.scope) in
    l.made ≡ elements_given (map (value_at_element (value_of l.item) l.name (environment_of l.scope)) (filter pass (take l.value-index l.items)))

abbrev pub decreases-evaluate : goal.decreases-evaluate
decreases-evaluate l = 4 * weight l.e.now

abbrev pub decreases-all : goal.decreases-all
decreases-all l = 4 * weight_of_all l.parts.now + 1

abbrev pub decreases-case : goal.decreases-case
decreases-case l = 4 * max (weight_of_all l.whens.now) (weight_of_all l.thens.now) + 1

abbrev pub decreases-passing : goal.decreases-passing
decreases-passing l = 4 * weight_if_any (option_copied l.when) + 1

abbrev pub decreases-first_passing : goal.decreases-first_passing
decreases-first_passing l = 4 * weight_if_any (option_copied l.when) + 2

abbrev pub decreases-all_pass : goal.decreases-all_pass
decreases-all_pass l = 4 * weight l.test.now + 2

abbrev pub decreases-any : goal.decreases-any
decreases-any l = 4 * weight l.test.now + 3

abbrev pub decreases-every : goal.decreases-every
decreases-every l = 4 * weight l.test.now + 3

abbrev pub decreases-listed : goal.decreases-listed
decreases-listed l = 4 * max (weight l.item.now) (weight_if_any (option_copied l.when)) + 2

abbrev pub decreases-each : goal.decreases-each
decreases-each l = 4 * max (weight l.item.now) (weight_if_any (option_copied l.when)) + 3

abbrev pub decreases-first : goal.decreases-first
decreases-first l = 4 * max (weight l.item.now) (weight_if_any (option_copied l.when)) + 3
