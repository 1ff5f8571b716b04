use denote.Param.Send.{sendable}
use Rattle.index_snapshot.proofs.Sending.{definition_sent, snapshot_sent, worker_sent}
use Rattle.index_snapshot_tests.proofs.tests.workers_and_snapshots_may_go_to_another_thread.Goals as goal

pub may_be_sent-requires-send-T : goal.may_be_sent-requires-send-T
may_be_sent-requires-send-T c κs = search (definition_sent, sendable)

pub may_be_sent-requires-2-send-T : goal.may_be_sent-requires-2-send-T
may_be_sent-requires-2-send-T c κs = search (snapshot_sent, sendable)

pub may_be_sent-requires-3-send-T : goal.may_be_sent-requires-3-send-T
may_be_sent-requires-3-send-T c κs = search (worker_sent, sendable)
