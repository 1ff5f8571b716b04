use Rattle.std.proofs.Common.{◌≡◌, ap, sym, ◌∙◌}
use Rattle.std.specs.Prelude.{string_bytes}
use Rattle.index_def.specs.LiveIndexes.{named}
use Rattle.index_ddl.proofs.Lookups.{found_by_name}
use Rattle.index_ddl.specs.Catalogs.{Indexes}
use Rattle.index_ddl.proofs.catalog.Catalog.named.Goals as goal

-- src/catalog.rt:74:5
pub returns : goal.returns
returns c =
    c.get.ensures.value ∙ found_by_name string_bytes c.args.name.now c.self.inside.by_name.entries c.self.invariant.0
    ∙ ap (λ (indexes : Indexes). named c.args.name.now indexes.live) c.self.view_is
