use Rattle.std.proofs.Common.{◌+◌, sym, ap, ◌∙◌, drop}
use Rattle.std.specs.Option.{option_copied, option_map}
use Rattle.n1ql_value.specs.Datum.{datum_of}
use Rattle.n1ql_value.specs.Collation.{value_cmp}
use Rattle.n1ql_funcs.specs.Choice.{higher_valued}
use Rattle.n1ql_funcs.proofs.Chosen.{onward, onward-step, onward-left, onward-end}
use Rattle.n1ql_funcs.proofs.choice.least.Goals as goal

pub loop-value-preserved : goal.loop-value-preserved
loop-value-preserved c =
    let vs = c.args.values.now in
    let i = c.loop-value.value-index in
    let before = option_map datum_of (option_copied c.loop-value.found) in
    ap (λ found. onward (λ d e. value_cmp e d) found (drop (i + 1) vs)) (c.lesser-found.ensures ∙ ap (higher_valued (λ d e. value_cmp e d) before) c.value-item.is)
    ∙ (sym (onward-step (λ d e. value_cmp e d) before vs i c.value-item.result c.loop-value-test.true) ∙ c.loop-value.invariant)

pub returns : goal.returns
returns c =
    let vs = c.args.values.now in
    let found = option_copied c.loop-value.found in
    onward-end (λ d e. value_cmp e d) found vs (sym (onward-left (λ d e. value_cmp e d) (option_map datum_of found) vs c.loop-value.value-index c.loop-value-test.false) ∙ c.loop-value.invariant)
