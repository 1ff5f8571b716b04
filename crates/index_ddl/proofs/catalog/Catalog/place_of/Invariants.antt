use Rattle.std.proofs.Common.{◌≡◌, false, take}
use Rattle.std.specs.List.{list_any}
use Rattle.index_def.specs.LiveIndexes.{is_numbered}
use Rattle.index_ddl.proofs.catalog.Catalog.place_of.Given as goal

abbrev pub invariant-loop-at : goal.invariant-loop-at
invariant-loop-at l = list_any (is_numbered l.number) (take l.at l.self.live) ≡ false
