use Rattle.std.proofs.Common.{◌≡◌, ◌+◌, Some, false, get_or, length, map, IsTrue, ap, sym, subst, ◌∙◌, arith}
use Rattle.std.specs.List.{find, filter, list_all, list_any}
use Rattle.std.specs.Option.{option_copied, option_map}
use Rattle.n1ql_value.specs.declared.value.Value.TheVariants as value
use Rattle.std.proofs.lemmas.List.{length-map}
use Rattle.n1ql_value.specs.Datum.{datum_of}
use Rattle.n1ql_value.specs.Kinds.{is_true, or_missing}
use Rattle.n1ql_ast.specs.Evaluation.{elements_given, inside, passes, value_at_element, value_of}
use Rattle.n1ql_ast.specs.Forms.{IsWellFormed, held_if_any, is_well_formed}
use Rattle.n1ql_expr.specs.Scopes.{environment_of, operand_value}
use Rattle.n1ql_expr.proofs.Elements.{over_array, any_found, next_case, values_count}
use Rattle.n1ql_expr.proofs.Parts.{weight, weight_if_any, weight_at, formed_at, count-Call, count-Build, parts-Two, parts-Between, parts-Any, parts-Every, parts-Each, parts-First}
use Rattle.n1ql_expr.proofs.evaluation.+evaluation.Goals as goal

pub any-returns-in-Array : goal.any-returns-in-Array
any-returns-in-Array t c =
    let pass = passes (Some (value_of c.args.test.now)) c.args.name.now (environment_of c.args.scope.now) in
    let items = c.as_slice.result.now in
    ap value.Bool (c.is_some.ensures ∙ any_found pass c.in_ok-found-in-Array.found items c.in_ok-found-in-Array.ensures)
    ∙ over_array (λ vs. value.Bool (list_any pass vs)) items (operand_value c.args.over) c.in-Array.items (sym c.value.ensures ∙ c.in-Array.is) c.as_slice.ensures

pub every-returns-in-Array : goal.every-returns-in-Array
every-returns-in-Array t c =
    let pass = passes (Some (value_of c.args.test.now)) c.args.name.now (environment_of c.args.scope.now) in
    ap value.Bool c.in_ok-holds-in-Array.ensures
    ∙ over_array (λ vs. value.Bool (list_all pass vs)) c.as_slice.result.now (operand_value c.args.over) c.in-Array.items (sym c.value.ensures ∙ c.in-Array.is) c.as_slice.ensures

pub each-returns-in-Array : goal.each-returns-in-Array
each-returns-in-Array t c =
    let env = environment_of c.args.scope.now in
    let pass = passes (option_map value_of (option_copied c.args.when)) c.args.name.now env in
    let item = value_at_element (value_of c.args.item.now) c.args.name.now env in
    ap value.Array c.in_ok-made-in-Array.ensures
    ∙ over_array (λ vs. value.Array (elements_given (map item (filter pass vs)))) c.as_slice.result.now (operand_value c.args.over) c.in-Array.items (sym c.value.ensures ∙ c.in-Array.is) c.as_slice.ensures

pub first-returns-in-Array : goal.first-returns-in-Array
first-returns-in-Array t c =
    let env = environment_of c.args.scope.now in
    let pass = passes (option_map value_of (option_copied c.args.when)) c.args.name.now env in
    let item = value_at_element (value_of c.args.item.now) c.args.name.now env in
    let none = ap option_copied (sym c.in-None.is) ∙ c.in_ok-value-in-Array.ensures in
    ap (λ found. or_missing (option_map item found)) none
    ∙ over_array (λ vs. or_missing (option_map item (find pass vs))) c.as_slice.result.now (operand_value c.args.over) c.in-Array.items (sym c.value.ensures ∙ c.in-Array.is) c.as_slice.ensures

pub first-returns-in-Some : goal.first-returns-in-Some
first-returns-in-Some t c =
    let env = environment_of c.args.scope.now in
    let pass = passes (option_map value_of (option_copied c.args.when)) c.args.name.now env in
    let item = value_at_element (value_of c.args.item.now) c.args.name.now env in
    let env_inside : environment_of c.inside-inner.result ≡ inside c.args.name.now c.in-Some.value.now env = c.inside-inner.ensures.environment in
    let shown : c.in_ok-into_value-in-Some.field-0 ≡ item c.in-Some.value.now = c.in_ok-into_value-in-Some.ensures ∙ (c.in_ok-evaluate-in-Some.ensures ∙ ap (value_of c.args.item.now) env_inside) in
    let some = ap option_copied (sym c.in-Some.is) ∙ c.in_ok-value-in-Array.ensures in
    shown ∙ (ap (λ found. or_missing (option_map item found)) some
    ∙ over_array (λ vs. or_missing (option_map item (find pass vs))) c.as_slice.result.now (operand_value c.args.over) c.in-Array.items (sym c.value.ensures ∙ c.in-Array.is) c.as_slice.ensures)

pub evaluate-evaluate-requires-in-Two-2 : goal.evaluate-evaluate-requires-in-Two-2
evaluate-evaluate-requires-in-Two-2 t c =
    let fits = (parts-Two c.args.e.now c.in-Two.op c.in-Two.x c.in-Two.y c.in-Two.is c.requires).1 in
    (omega (arith, c.decreases, fits.0, ap weight c.get-in-Two-2.ensures), subst IsWellFormed (sym c.get-in-Two-2.ensures) fits.1)

pub evaluate-evaluate-requires-in-Between-3 : goal.evaluate-evaluate-requires-in-Between-3
evaluate-evaluate-requires-in-Between-3 t c =
    let fits = (parts-Between c.args.e.now c.in-Between.x c.in-Between.low c.in-Between.high c.in-Between.is c.requires).2 in
    (omega (arith, c.decreases, fits.0, ap weight c.get-in-Between-3.ensures), subst IsWellFormed (sym c.get-in-Between-3.ensures) fits.1)

pub evaluate-call-requires : goal.evaluate-call-requires
evaluate-call-requires t c =
    let env = environment_of c.args.scope.now in
    let args = c.as_slice.result.now in
    let values = c.in_ok-all-in-Call.field-0.items in
    let made : length c.in_ok-args-in-Call.args ≡ length values = ap length c.in_ok-args-in-Call.ensures ∙ length-map values datum_of in
    let known : length values ≡ length args = ap length c.in_ok-all-in-Call.ensures ∙ values_count args env in
    count-Call c.args.e.now c.in-Call.fun c.in-Call.args (length c.in_ok-args-in-Call.args) c.in-Call.is c.requires (made ∙ (known ∙ ap length c.as_slice.ensures))

pub evaluate-object-requires : goal.evaluate-object-requires
evaluate-object-requires t c =
    let env = environment_of c.args.scope.now in
    let values = c.as_slice-in-Build.result.now in
    let known : length c.in_ok-values-in-Build.values.items ≡ length values = ap length c.in_ok-values-in-Build.ensures ∙ values_count values env in
    count-Build c.args.e.now c.in-Build.names c.in-Build.values c.in-Build.is c.requires ∙ sym (known ∙ ap length c.as_slice-in-Build.ensures)

pub evaluate-any-requires : goal.evaluate-any-requires
evaluate-any-requires t c =
    let fits = (parts-Any c.args.e.now c.in-Any.name c.in-Any.over c.in-Any.test c.in-Any.is c.requires).1 in
    (omega (arith, c.decreases, fits.0, ap weight c.get-in-Any-2.ensures), subst IsWellFormed (sym c.get-in-Any-2.ensures) fits.1)

pub evaluate-every-requires : goal.evaluate-every-requires
evaluate-every-requires t c =
    let fits = (parts-Every c.args.e.now c.in-Every.name c.in-Every.over c.in-Every.test c.in-Every.is c.requires).1 in
    (omega (arith, c.decreases, fits.0, ap weight c.get-in-Every-2.ensures), subst IsWellFormed (sym c.get-in-Every-2.ensures) fits.1)

pub evaluate-each-requires : goal.evaluate-each-requires
evaluate-each-requires t c =
    let parts = parts-Each c.args.e.now c.in-Each.name c.in-Each.item c.in-Each.over c.in-Each.when c.in-Each.is c.requires in (
      omega (arith, c.decreases, parts.0.0, parts.2.0, ap weight c.get-in-Each-2.ensures, ap weight_if_any c.part.ensures),
      (subst IsWellFormed (sym c.get-in-Each-2.ensures) parts.0.1, subst (λ x. IsTrue (held_if_any (option_map is_well_formed x))) (sym c.part.ensures) parts.2.1),
    )

pub evaluate-first-requires : goal.evaluate-first-requires
evaluate-first-requires t c =
    let parts = parts-First c.args.e.now c.in-First.name c.in-First.item c.in-First.over c.in-First.when c.in-First.is c.requires in (
      omega (arith, c.decreases, parts.0.0, parts.2.0, ap weight c.get-in-First-2.ensures, ap weight_if_any c.part-in-First.ensures),
      (subst IsWellFormed (sym c.get-in-First-2.ensures) parts.0.1, subst (λ x. IsTrue (held_if_any (option_map is_well_formed x))) (sym c.part-in-First.ensures) parts.2.1),
    )

pub all-evaluate-requires : goal.all-evaluate-requires
all-evaluate-requires t c =
    let part = c.part-item.result in
    let same : part ≡ get_or c.args.parts.now c.loop-part.part-index part = c.part-item.is in
    let lighter = weight_at c.args.parts.now c.loop-part.part-index part (omega arith) in
    (omega (arith, c.decreases, lighter, ap weight same), subst IsWellFormed (sym same) (formed_at c.args.parts.now c.loop-part.part-index part c.requires (omega arith)))

pub case-evaluate-requires : goal.case-evaluate-requires
case-evaluate-requires t c =
    let when = c.index-whens-at.result in
    let same : when ≡ get_or c.args.whens.now c.loop-at.at when = c.index-whens-at.is in
    let lighter = weight_at c.args.whens.now c.loop-at.at when (omega arith) in
    (omega (arith, c.decreases, lighter, ap weight same), subst IsWellFormed (sym same) (formed_at c.args.whens.now c.loop-at.at when c.requires.whens (omega arith)))

pub case-evaluate-requires-then-is_true : goal.case-evaluate-requires-then-is_true
case-evaluate-requires-then-is_true t c =
    let then = c.index-thens-at.result in
    let same : then ≡ get_or c.args.thens.now c.loop-at.at then = c.index-thens-at.is in
    let lighter = weight_at c.args.thens.now c.loop-at.at then (omega (arith, c.requires.counts)) in
    (omega (arith, c.decreases, lighter, ap weight same), subst IsWellFormed (sym same) (formed_at c.args.thens.now c.loop-at.at then c.requires.thens (omega (arith, c.requires.counts))))

pub case-loop-at-preserved : goal.case-loop-at-preserved
case-loop-at-preserved t c =
    let env = environment_of c.args.scope.now in
    let when = c.index-whens-at.result in
    let same : when ≡ get_or c.args.whens.now c.loop-at.at when = c.index-whens-at.is in
    let not_true : is_true (value_of when env) ≡ false = ap is_true (sym (c.value.ensures ∙ c.in_ok-evaluate.ensures)) ∙ (sym c.is_true.ensures ∙ c.if-is_true.false) in
    next_case c.args.whens.now c.args.thens.now env c.loop-at.at (c.loop-at.at + 1) when (omega arith) (omega arith) (omega (arith, c.requires.counts)) (subst (λ x. is_true (value_of x env) ≡ false) same not_true)
    ∙ c.loop-at.invariant
