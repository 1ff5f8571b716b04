use Rattle.n1ql_ast.specs.Statements.{FollowsDdl}
use Rattle.n1ql_parse.proofs.Texts.{token-fault}
use Rattle.n1ql_parse.proofs.index_statements.ddl.Goals as goal

pub returns-in-Err-clause-fault : goal.returns-in-Err-clause-fault
returns-in-Err-clause-fault c = token-fault FollowsDdl c.args.text.now c.in-Err.fault c.in-Err.ensures.fault
