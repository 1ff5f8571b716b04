-- Mutations and stores may go to another thread. The steps are told one by one, since a search for the whole of a store
-- comes to the end of its steps.
use denote.Param.Send.{IsSend, IsSync, sendable}
use Rattle.std.proofs.Crossing.{crosses}
use Rattle.std.proofs.MapsCrossing.{crosses as maps}
use Rattle.n1ql_value.proofs.pairs.Pairs.TheLaws.TheKnot.{crosses as values}
use Rattle.n1ql_value.proofs.text.Text.TheSendSync.{the_send, the_sync}
use Rattle.vb_store.specs.contracts.mutation.Mutation as mutation
use Rattle.vb_store.specs.contracts.store.VbStore as store

pub mutation_sent : IsSend (mutation.the_row)
mutation_sent = search (sendable, crosses, values, the_send) depth 40

pub mutation_shared : IsSync (mutation.the_row)
mutation_shared = search (sendable, crosses, values, the_sync) depth 40

pub store_sent : IsSend (store.the_row)
store_sent = search (mutation_sent, mutation_shared, sendable, crosses, maps) depth 40
