use Rattle.std.proofs.Common.{sym, subst}
use Rattle.n1ql_ast.specs.Statements.{FollowsDdl}
use Rattle.n1ql_parse.specs.Faults.{IsDdlFaultOf}
use Rattle.n1ql_parse.proofs.FormedDefinitions.{ddl-formed}
use Rattle.n1ql_parse.proofs.Texts.{fault-of}
use Rattle.n1ql_parse.proofs.index_statements.read.Goals as goal

pub returns-in-Ok-clause-formed : goal.returns-in-Ok-clause-formed
returns-in-Ok-clause-formed c = ddl-formed c.resolved_variables_are_bound.ensures c.in-Ok.ensures.read

pub returns-in-Err-clause-fault : goal.returns-in-Err-clause-fault
returns-in-Err-clause-fault c =
    subst (IsDdlFaultOf c.args.text.now) (sym c.fault_at.ensures)
    (fault-of FollowsDdl c.args.text.now c.args.tokens.now c.in-Err.stop c.requires.cut c.requires.few c.in-Err.ensures.stop)
