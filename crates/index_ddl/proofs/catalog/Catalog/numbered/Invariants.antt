use Rattle.std.proofs.Common.{◌≡◌, find, drop}
use Rattle.index_def.specs.LiveIndexes.{is_numbered}
use Rattle.index_ddl.proofs.catalog.Catalog.numbered.Given as goal

abbrev pub invariant-loop-at : goal.invariant-loop-at
invariant-loop-at l = find (is_numbered l.number) (drop l.at l.self.live) ≡ find (is_numbered l.number) l.self.live
