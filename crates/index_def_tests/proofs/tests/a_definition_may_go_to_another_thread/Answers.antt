use denote.Param.Send.{sendable}
use Rattle.index_def.proofs.Sending.{definition_sent}
use Rattle.index_def_tests.proofs.tests.a_definition_may_go_to_another_thread.Goals as goal

pub may_be_sent-requires-send-T : goal.may_be_sent-requires-send-T
may_be_sent-requires-send-T c κs = search (definition_sent, sendable)
