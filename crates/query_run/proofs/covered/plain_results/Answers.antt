use Rattle.std.proofs.Common.{◌≡◌, map, rules}
use Rattle.std.proofs.lemmas.Result.{IfOk-weaker}
use Rattle.n1ql_meaning.specs.Results.{placed_result, row_alone}
use Rattle.pipe_rows.specs.Pipes.{placed, row_of}
use Rattle.query_run.proofs.Made.{plain_made}
use Rattle.query_run.proofs.covered.plain_results.Goals as goal

pub returns : goal.returns
returns c =
    let outs : map placed c.in_ok-outs.outs.items ≡ map (λ row. placed_result c.args.q.now (row_alone (row_of row))) c.args.rows.now = search rules in
    IfOk-weaker c.finish.result _ _ (λ vs h. plain_made row_of c.args.q.now c.args.rows.now (map placed c.in_ok-outs.outs.items) vs outs h) c.finish.ensures
