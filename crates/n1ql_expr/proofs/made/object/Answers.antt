use Rattle.std.proofs.Common.{◌≡◌, ◌+◌, ◌<◌, suc, [], ◌∷◌, length, ap, ◌∙◌, arith}
use Rattle.std.proofs.lemmas.List.{length-append}
use Rattle.n1ql_value.specs.Constructors.{with_given}
use Rattle.n1ql_value.specs.Datum.{pair_of}
use Rattle.n1ql_expr.proofs.Values.{given_more}
use Rattle.n1ql_expr.proofs.made.object.Goals as goal

pub loop-value-preserved : goal.loop-value-preserved
loop-value-preserved c =
    let at = c.loop-value.at in
    let name = c.index-names-at.result in
    let next : at + 1 ≡ suc (length c.loop-value.yielded) = omega (arith, c.loop-value.invariant.0) in
    let within : at < length c.as_slice-names.result.now = omega (arith, c.loop-value.invariant.2, ap length c.in-Some.ensures.steps.0) in
    let made = given_more c.as_slice-names.result.now c.loop-value.yielded c.in-Some.value name at (at + 1) c.loop-value.invariant.0 next within c.index-names-at.is in
    (omega (arith, c.loop-value.invariant.0, length-append c.loop-value.yielded (c.in-Some.value ∷ [])), c.in_ok-put_given.ensures ∙ (ap (λ ps. with_given ps (pair_of (name, c.in-Some.value))) c.loop-value.invariant.1 ∙ made), omega (arith, c.loop-value.invariant.2, ap length c.in-Some.ensures.steps.0))
