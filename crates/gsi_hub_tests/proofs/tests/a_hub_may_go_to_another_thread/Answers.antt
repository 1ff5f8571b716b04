use denote.Param.Send.{sendable}
use Rattle.gsi_hub.proofs.Sending.{hub_sent}
use Rattle.gsi_hub_tests.proofs.tests.a_hub_may_go_to_another_thread.Goals as goal

pub may_be_sent-requires-send-T : goal.may_be_sent-requires-send-T
may_be_sent-requires-send-T c κs = search (hub_sent, sendable)
