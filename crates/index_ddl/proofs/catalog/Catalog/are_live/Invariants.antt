use Rattle.std.proofs.Common.{◌≡◌, drop}
use Rattle.std.specs.List.{list_all}
use Rattle.index_def.specs.LiveIndexes.{is_live}
use Rattle.index_ddl.proofs.catalog.Catalog.are_live.Given as goal

abbrev pub invariant-loop-name : goal.invariant-loop-name
invariant-loop-name l = list_all (is_live l.self.live) (drop l.name-index l.names) ≡ list_all (is_live l.self.live) l.names
