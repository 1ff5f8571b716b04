-- A catalog may go to another thread. The steps are told one by one, since a search for the whole comes to the end of its steps.
use denote.Param.Send.{IsSend, sendable}
use Rattle.std.proofs.Crossing.{crosses}
use Rattle.std.proofs.MapsCrossing.{crosses as maps}
use Rattle.index_def.proofs.Sending.{definition_sent, definition_shared}
use Rattle.index_ddl.specs.contracts.catalog.Catalog as catalog
use Rattle.index_ddl.specs.contracts.live_index.LiveIndex as live

live_sent : IsSend (live.the_row)
live_sent = search (definition_sent, definition_shared, sendable, crosses) depth 40

pub catalog_sent : IsSend (catalog.the_row)
catalog_sent = search (live_sent, sendable, crosses, maps) depth 40
