-- Snapshots and workers may go to another thread. The steps are told one by one, since a search for the whole of one comes to the
-- end of its steps.
use denote.Param.Send.{IsSend, IsSync, sendable}
use Rattle.std.proofs.Crossing.{crosses}
use Rattle.std.proofs.MapsCrossing.{crosses as maps}
use Rattle.n1ql_value.proofs.pairs.Pairs.TheLaws.TheKnot.{crosses as values}
use Rattle.n1ql_value.proofs.text.Text.TheSendSync.{the_send, the_sync}
use Rattle.n1ql_value.specs.contracts.row.Row as row
use Rattle.n1ql_ast.proofs.expr.Expr.TheLaws.TheKnot.{send-Expr, sync-Expr}
use Rattle.n1ql_ast.specs.contracts.expr.Expr as expr
use Rattle.n1ql_ast.specs.contracts.key.Key as key
use Rattle.index_def.specs.contracts.definition.IndexDef as definition
use Rattle.index_tree.specs.contracts.frozen.Frozen as frozen
use Rattle.index_tree.specs.contracts.shared.SharedRows as shared
use Rattle.index_tree.specs.contracts.tree.Tree as tree
use Rattle.index_state.specs.contracts.state.IndexState as state
use Rattle.index_snapshot.specs.contracts.snapshot.Snapshot as snapshot
use Rattle.index_snapshot.specs.contracts.worker.IndexWorker as worker

-- the parts of an expression, in the order in which its variants name them
expression_sent : IsSend (expr.the_field).row
expression_sent =
    send-Expr (search (values, sendable, crosses, the_send) depth 40) (search sendable) (search (the_send, sendable)) (search sendable)
    (λ h s. search (sendable, crosses) depth 40) (search sendable depth 80) (search sendable depth 80) (search sendable depth 80)
    (λ h s. search (sendable, crosses) depth 40) (search (the_send, sendable, crosses) depth 40) (λ h s. search (sendable, crosses) depth 40) (search sendable depth 80)

expression_shared : IsSync (expr.the_field).row
expression_shared =
    sync-Expr (search (values, sendable, crosses, the_sync) depth 40) (search sendable) (search (the_sync, sendable)) (search sendable)
    (λ h s. search (sendable, crosses) depth 40) (search sendable depth 80) (search sendable depth 80) (search sendable depth 80)
    (λ h s. search (sendable, crosses) depth 40) (search (the_sync, sendable, crosses) depth 40) (λ h s. search (sendable, crosses) depth 40) (search sendable depth 80)

key_sent : IsSend (key.the_row)
key_sent = search (expression_sent, sendable, crosses, the_send) depth 40

key_shared : IsSync (key.the_row)
key_shared = search (expression_shared, sendable, crosses, the_sync) depth 40

pub definition_sent : IsSend (definition.the_row)
definition_sent = search (key_sent, expression_sent, sendable, crosses, the_send) depth 40

definition_shared : IsSync (definition.the_row)
definition_shared = search (key_shared, expression_shared, sendable, crosses, the_sync) depth 40

row_sent : IsSend (row.the_row)
row_sent = search (sendable, crosses, values, the_send) depth 40

row_shared : IsSync (row.the_row)
row_shared = search (sendable, crosses, values, the_sync) depth 40

frozen_sent : IsSend (frozen.the_row)
frozen_sent = search (row_sent, row_shared, sendable, crosses) depth 40

pub snapshot_sent : IsSend (snapshot.the_row)
snapshot_sent = search (definition_sent, definition_shared, frozen_sent, sendable, crosses) depth 40

shared_sent : IsSend (shared.the_row)
shared_sent = search (row_sent, row_shared, sendable, crosses) depth 40

tree_sent : IsSend (tree.the_row)
tree_sent = search (row_sent, row_shared, sendable, crosses) depth 40

state_sent : IsSend (state.the_row)
state_sent = search (shared_sent, tree_sent, the_send, sendable, crosses, maps) depth 40

pub worker_sent : IsSend (worker.the_row)
worker_sent = search (definition_sent, definition_shared, state_sent, sendable, crosses) depth 40
