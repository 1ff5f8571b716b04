-- A definition may go to another thread, and threads may share one. What its parts are made of is told type by type, since a search
-- finds none of it alone.
use denote.Param.Send.{IsSend, IsSync, sendable}
use Rattle.std.proofs.Crossing.{crosses}
use Rattle.sqlite_items.proofs.boxed.Boxed.TheSendSync.{the_send as boxed}
use Rattle.sqlite_items.proofs.items.Items.TheSendSync.{the_send as items}
use Rattle.n1ql_value.proofs.fun.Fun.TheSendSync.{the_field_send as fun}
use Rattle.n1ql_value.proofs.list_of.ListOf.TheSendSync.{the_send as list}
use Rattle.n1ql_value.proofs.op.Op.TheSendSync.{the_field_send as op}
use Rattle.n1ql_value.proofs.pairs.Pairs.TheLaws.TheKnot.{crosses as values}
use Rattle.n1ql_value.proofs.text.Text.TheSendSync.{the_send as text, the_sync as shared_text}
use Rattle.n1ql_ast.proofs.agg.Agg.TheSendSync.{the_field_send as agg}
use Rattle.n1ql_ast.proofs.expr.Expr.TheLaws.TheKnot.{crosses as expressions, sync-Expr}
use Rattle.n1ql_ast.proofs.test.Test.TheSendSync.{the_field_send as test}
use Rattle.n1ql_ast.specs.contracts.expr.Expr as expr
use Rattle.n1ql_ast.specs.contracts.key.Key as key
use Rattle.index_def.specs.contracts.definition.IndexDef as definition

expr_sent : IsSend (expr.the_field).row
expr_sent = search (sendable, crosses, expressions, values, boxed, items, text, op, fun, test, agg) depth 40 fits 100000

key_sent : IsSend (key.the_field).row
key_sent = search (expr_sent, sendable, crosses, text) depth 40

pub definition_sent : IsSend (definition.the_row)
definition_sent = search (expr_sent, key_sent, list, sendable, crosses, text) depth 40

-- the parts of an expression, in the order in which its variants name them
expr_shared : IsSync (expr.the_field).row
expr_shared =
    sync-Expr (search (values, sendable, crosses, shared_text) depth 40) (search sendable) (search (shared_text, sendable)) (search sendable)
    (λ h s. search (sendable, crosses) depth 40) (search sendable depth 80) (search sendable depth 80) (search sendable depth 80)
    (λ h s. search (sendable, crosses) depth 40) (search (shared_text, sendable, crosses) depth 40) (λ h s. search (sendable, crosses) depth 40) (search sendable depth 80)

key_shared : IsSync (key.the_row)
key_shared = search (expr_shared, sendable, crosses, shared_text) depth 40

pub definition_shared : IsSync (definition.the_row)
definition_shared = search (key_shared, expr_shared, sendable, crosses, shared_text) depth 40
