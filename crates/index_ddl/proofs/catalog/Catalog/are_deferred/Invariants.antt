use Rattle.std.proofs.Common.{◌≡◌, drop}
use Rattle.std.specs.List.{list_all}
use Rattle.index_def.specs.LiveIndexes.{is_live_deferred}
use Rattle.index_ddl.proofs.catalog.Catalog.are_deferred.Given as goal

abbrev pub invariant-loop-name : goal.invariant-loop-name
invariant-loop-name l = list_all (is_live_deferred l.self.live) (drop l.name-index l.names) ≡ list_all (is_live_deferred l.self.live) l.names
