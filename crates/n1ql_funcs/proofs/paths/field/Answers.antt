use Rattle.std.proofs.Common.{◌≡◌, ap, sym, ◌∙◌}
use Rattle.std.specs.Option.{option_copied}
use Rattle.n1ql_value.specs.Kinds.{or_missing}
use Rattle.n1ql_value.specs.Paths.{field_of}
use Rattle.n1ql_value.proofs.Found.{value_found}
use Rattle.n1ql_funcs.proofs.paths.field.Goals as goal

pub returns-in-Object-clause-value : goal.returns-in-Object-clause-value
returns-in-Object-clause-value c =
    let told : or_missing (option_copied c.get.result) ≡ field_of c.args.name.now c.args.value.now =
    ap or_missing (value_found (option_copied c.get.result) _ c.get.ensures) ∙ sym (ap (field_of c.args.name.now) c.in-Object.is) in
    c.unless_missing.ensures.value ∙ told

pub returns-in-Object-clause-none : goal.returns-in-Object-clause-none
returns-in-Object-clause-none c =
    let told : or_missing (option_copied c.get.result) ≡ field_of c.args.name.now c.args.value.now =
    ap or_missing (value_found (option_copied c.get.result) _ c.get.ensures) ∙ sym (ap (field_of c.args.name.now) c.in-Object.is) in
    (λ h. sym told ∙ c.unless_missing.ensures.none.0 h, λ h. c.unless_missing.ensures.none.1 (told ∙ h))
