use Rattle.n1ql_ast.specs.Selections.{FollowsSelect}
use Rattle.n1ql_parse.proofs.Texts.{token-fault}
use Rattle.n1ql_parse.proofs.queries.select.Goals as goal

pub returns-in-Err-clause-fault : goal.returns-in-Err-clause-fault
returns-in-Err-clause-fault c = token-fault FollowsSelect c.args.text.now c.in-Err.fault c.in-Err.ensures.fault
