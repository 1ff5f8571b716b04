use Rattle.n1ql_ast.specs.Faults.{FollowsExpr}
use Rattle.n1ql_parse.proofs.Texts.{token-fault}
use Rattle.n1ql_parse.proofs.expressions.expr.Goals as goal

pub returns-in-Err-clause-fault : goal.returns-in-Err-clause-fault
returns-in-Err-clause-fault c = token-fault FollowsExpr c.args.text.now c.in-Err.fault c.in-Err.ensures.fault
