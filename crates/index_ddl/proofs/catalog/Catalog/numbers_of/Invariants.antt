use Rattle.std.proofs.Common.{◌≡◌, take}
use Rattle.index_def.specs.LiveIndexes.{first_of_each, numbers_of}
use Rattle.index_ddl.proofs.catalog.Catalog.numbers_of.Given as goal

abbrev pub invariant-loop-name : goal.invariant-loop-name
invariant-loop-name l = l.numbers ≡ first_of_each (numbers_of (take l.name-index l.names) l.self.live)
