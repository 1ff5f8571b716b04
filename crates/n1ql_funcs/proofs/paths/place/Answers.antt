use Rattle.std.proofs.Common.{◌≡◌, rules, ap, sym, ◌∙◌}
use Rattle.std.proofs.lemmas.Int.{to_z-of_z}
use Rattle.std.specs.Int.RustNames.{FitsSigned}
use Rattle.std.specs.Option.{option_copied, option_map}
use mir.Syntax.{w64}
use Rattle.n1ql_value.specs.declared.value.Value.{Value}
use Rattle.n1ql_value.specs.declared.value.Value.TheVariants.{Array}
use Rattle.n1ql_value.specs.Datum.{value_of}
use Rattle.n1ql_value.specs.Kinds.{or_missing}
use Rattle.n1ql_value.specs.Paths.{element_at, place_of}
use Rattle.n1ql_value.proofs.Found.{value_found}
use Rattle.n1ql_funcs.proofs.paths.place.Goals as goal

pub returns-in-Array-Int-clause-value : goal.returns-in-Array-Int-clause-value
returns-in-Array-Int-clause-value c =
    let items = c.in-Array-Int.items in
    let at = c.in-Array-Int.at in
    let fits : FitsSigned w64 at = search rules in
    let told : or_missing (option_copied c.element.result) ≡ place_of c.args.value.now c.args.at.now =
    ap or_missing (value_found (option_copied c.element.result) _ c.element.ensures)
    ∙ (ap (λ z. or_missing (option_map value_of (element_at items z))) (to_z-of_z w64 at fits)
    ∙ sym (ap (λ v. place_of v c.args.at.now) c.in-Array-Int.is-0 ∙ ap (λ (v : Value). place_of (Array items) v) c.in-Array-Int.is-1)) in
    c.unless_missing.ensures.value ∙ told

pub returns-in-Array-Int-clause-none : goal.returns-in-Array-Int-clause-none
returns-in-Array-Int-clause-none c =
    let items = c.in-Array-Int.items in
    let at = c.in-Array-Int.at in
    let fits : FitsSigned w64 at = search rules in
    let told : or_missing (option_copied c.element.result) ≡ place_of c.args.value.now c.args.at.now =
    ap or_missing (value_found (option_copied c.element.result) _ c.element.ensures)
    ∙ (ap (λ z. or_missing (option_map value_of (element_at items z))) (to_z-of_z w64 at fits)
    ∙ sym (ap (λ v. place_of v c.args.at.now) c.in-Array-Int.is-0 ∙ ap (λ (v : Value). place_of (Array items) v) c.in-Array-Int.is-1)) in
    (λ h. sym told ∙ c.unless_missing.ensures.none.0 h, λ h. c.unless_missing.ensures.none.1 (told ∙ h))
