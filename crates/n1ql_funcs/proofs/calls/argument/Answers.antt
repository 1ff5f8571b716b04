use Rattle.std.proofs.Common.{◌<◌, length, ap, ◌∙◌, arith}
use Rattle.std.proofs.lemmas.List.{length-map}
use Rattle.n1ql_value.specs.Datum.{datum_of}
use Rattle.n1ql_value.specs.FunctionValues as values
use Rattle.n1ql_funcs.proofs.Read.{argument_at}
use Rattle.n1ql_funcs.proofs.calls.argument.Goals as goal

pub returns : goal.returns
returns c =
    let vs = c.as_slice.result.now in
    let within : c.args.place < length vs = omega (arith, length-map vs datum_of, ap length c.as_slice.ensures) in
    c.index-as_slice-place.is ∙ (argument_at vs c.args.place c.index-as_slice-place.result within ∙ ap (λ ds. values.argument ds c.args.place) c.as_slice.ensures)
