use Rattle.n1ql_expr.specs.Scopes.{environment_on}
use Rattle.pipe_rows.specs.Pipes.{row_of}
use Rattle.pipe_rows.proofs.Alone.{out_on}
use Rattle.pipe_rows.proofs.plain_results.out_of.Goals as goal

pub returns : goal.returns
returns c =
    out_on c.args.q.now (row_of c.args.row.now) c.args.keys.now (environment_on c.env-env.result) c.in_ok-result.result c.in_ok-order.order c.in_ok-base.base
    c.env-env.ensures c.requires.keys c.in_ok-result.ensures c.in_ok-order.ensures c.in_ok-base.ensures
