use denote.Param.Send.{sendable}
use Rattle.vb_store.proofs.Sending.{store_sent}
use Rattle.vb_store.proofs.tests.mutations_may_go_to_another_thread.Goals as goal

pub may_be_sent-requires-2-send-T : goal.may_be_sent-requires-2-send-T
may_be_sent-requires-2-send-T c κs = search (store_sent, sendable)
