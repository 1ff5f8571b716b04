use Rattle.std.proofs.Common.{sym, subst}
use Rattle.n1ql_ast.specs.Selections.{FollowsSelect}
use Rattle.n1ql_parse.specs.Faults.{IsSelectFaultOf}
use Rattle.n1ql_parse.proofs.FormedQueries.{meant-formed}
use Rattle.n1ql_parse.proofs.Texts.{fault-of}
use Rattle.n1ql_parse.proofs.queries.read.Goals as goal

pub returns-in-Ok-clause-formed : goal.returns-in-Ok-clause-formed
returns-in-Ok-clause-formed c = meant-formed c.resolved_variables_are_bound.ensures c.in-Ok.ensures.read c.meant.result c.meant.ensures.select

pub returns-in-Err-clause-fault : goal.returns-in-Err-clause-fault
returns-in-Err-clause-fault c =
    subst (IsSelectFaultOf c.args.text.now) (sym c.fault_at.ensures)
    (fault-of FollowsSelect c.args.text.now c.args.tokens.now c.in-Err.stop c.requires.cut c.requires.few c.in-Err.ensures.stop)
