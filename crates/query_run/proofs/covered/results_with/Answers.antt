use Rattle.std.proofs.Common.{◌≡◌, map, rules}
use Rattle.std.proofs.lemmas.Result.{IfOk-weaker}
use Rattle.n1ql_meaning.specs.Rows.{rows_from}
use Rattle.pipe_rows.specs.Pipes.{input_row, row_of}
use Rattle.query_run.specs.inner.Runs.{statement_for}
use Rattle.query_run.proofs.Made.{with_made}
use Rattle.query_run.proofs.covered.results_with.Goals as goal

pub returns : goal.returns
returns c =
    let rows = map row_of c.as_slice-2.result.now in
    let is : rows ≡ rows_from c.args.over.now (map input_row c.args.inputs.now) = search rules in
    let for : c.statement_for.result.now ≡ statement_for c.args.q.now c.args.over.now rows = search rules in
    IfOk-weaker c.plain_results.result _ _
    (λ vs h. with_made c.args.q.now c.args.over.now c.statement_for.result.now (map input_row c.args.inputs.now) rows vs is for h) c.plain_results.ensures
