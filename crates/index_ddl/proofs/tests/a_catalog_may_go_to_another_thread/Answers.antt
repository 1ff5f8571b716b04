use denote.Param.Send.{sendable}
use Rattle.index_ddl.proofs.Sending.{catalog_sent}
use Rattle.index_ddl.proofs.tests.a_catalog_may_go_to_another_thread.Goals as goal

pub may_be_sent-requires-send-T : goal.may_be_sent-requires-send-T
may_be_sent-requires-send-T c κs = search (catalog_sent, sendable)
