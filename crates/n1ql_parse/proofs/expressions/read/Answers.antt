use Rattle.std.proofs.Common.{sym, ap, subst, ◌∙◌}
use Rattle.n1ql_ast.specs.Faults.{FollowsExpr}
use Rattle.n1ql_ast.specs.Forms.{HasNoAggregate, IsWellFormed}
use Rattle.n1ql_ast.specs.Names.{outermost, resolved}
use Rattle.n1ql_parse.specs.Faults.{IsFaultOf}
use Rattle.n1ql_parse.specs.Input.{classes_of}
use Rattle.n1ql_parse.proofs.Texts.{fault-of}
use Rattle.n1ql_parse.proofs.Whole.{whole-formed, whole-plain}
use Rattle.n1ql_parse.proofs.expressions.read.Goals as goal

pub returns-in_ok-on_document-in-Ok-clause-formed : goal.returns-in_ok-on_document-in-Ok-clause-formed
returns-in_ok-on_document-in-Ok-clause-formed c =
    let scope = outermost c.args.alias.now in
    let e = c.in_ok-on_document-in-Ok.ensures ∙ ap (λ x. resolved x scope) c.get.ensures in
    subst IsWellFormed (sym e) (whole-formed (classes_of c.args.tokens.now) c.in-Ok.unresolved scope c.in-Ok.ensures.read)

pub returns-in_ok-on_document-in-Ok-clause-plain : goal.returns-in_ok-on_document-in-Ok-clause-plain
returns-in_ok-on_document-in-Ok-clause-plain c =
    let scope = outermost c.args.alias.now in
    let e = c.in_ok-on_document-in-Ok.ensures ∙ ap (λ x. resolved x scope) c.get.ensures in
    subst HasNoAggregate (sym e) (whole-plain (classes_of c.args.tokens.now) c.in-Ok.unresolved scope c.in-Ok.ensures.read)

pub returns-in-Err-clause-fault : goal.returns-in-Err-clause-fault
returns-in-Err-clause-fault c =
    subst (IsFaultOf c.args.text.now) (sym c.fault_at.ensures)
    (fault-of FollowsExpr c.args.text.now c.args.tokens.now c.in-Err.stop c.requires.cut c.requires.few c.in-Err.ensures.stop)
