use Rattle.n1ql_expr.specs.Scopes.{environment_on}
use Rattle.pipe_rows.specs.Pipes.{alone}
use Rattle.pipe_rows.proofs.Elements.{terms_step}
use Rattle.pipe_rows.proofs.object.put_terms.Goals as goal

pub loop-at-preserved : goal.loop-at-preserved
loop-at-preserved c =
    terms_step c.args.q.now (alone (environment_on c.args.env.now)) c.loop-at.at c.index-terms-at.result c.args.terms.now c.loop-at.pairs c.put_term.new.pairs _
    c.index-terms-at.is c.loop-at-test.true c.in_ok-put_term.ensures c.loop-at.invariant
