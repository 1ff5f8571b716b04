use Rattle.std.proofs.Common.{◌≡◌, map, rules}
use Rattle.std.proofs.lemmas.Result.{IfOk-weaker}
use Rattle.n1ql_covered.specs.OverKeys.{over_index}
use Rattle.n1ql_covered.specs.ShownRows.{row_shown}
use Rattle.pipe_rows.specs.Pipes.{input_row}
use Rattle.query_run.proofs.Made.{over_made}
use Rattle.query_run.proofs.covered.results_over.Goals as goal

pub returns : goal.returns
returns c =
    let is : c.in_ok-over.over ≡ over_index c.args.q.now c.args.def.now = search rules in
    let shown : map input_row c.in_ok-inputs.inputs ≡ map row_shown c.args.rows = search rules in
    IfOk-weaker c.results_with.result _ _
    (λ vs h. over_made c.args.q.now c.in_ok-over.over c.args.def.now c.args.rows (map input_row c.in_ok-inputs.inputs) vs is shown h) c.results_with.ensures
