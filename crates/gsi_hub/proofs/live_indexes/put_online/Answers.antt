use Rattle.std.proofs.Common.{sym, ap, ◌∙◌}
use Rattle.gsi_hub.specs.inner.Kept.{is_being_built}
use Rattle.gsi_hub.proofs.LiveLists.{online_already}
use Rattle.gsi_hub.proofs.live_indexes.put_online.Goals as goal

pub returns-else-is_building-clause-live : goal.returns-else-is_building-clause-live
returns-else-is_building-clause-live c =
    sym (online_already c.args.number c.args.catalog.now.live c.requires (ap is_being_built (sym c.state.ensures) ∙ (sym c.is_building.ensures ∙ c.if-is_building.false)))
