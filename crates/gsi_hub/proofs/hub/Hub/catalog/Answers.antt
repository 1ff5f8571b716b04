use Rattle.std.proofs.Common.{◌≡◌, List, length, sym, subst}
use Rattle.std.specs.List.{AllByRecursion}
use Rattle.index_def.specs.Forms.{IsFormed}
use Rattle.index_def.specs.LiveIndexes.{Live}
use Rattle.gsi_hub.specs.Past.{Past, state_of}
use Rattle.gsi_hub.proofs.hub.Hub.catalog.Goals as goal

pub returns-clause-live : goal.returns-clause-live
returns-clause-live c = subst (λ (q : Past). c.self.inside.catalog.live ≡ (state_of q).live) c.self.view_is c.self.invariant.state.live

pub returns-clause-made : goal.returns-clause-made
returns-clause-made c = subst (λ (q : Past). c.self.inside.catalog.made ≡ length (state_of q).defs) c.self.view_is c.self.invariant.state.made

pub returns-clause-formed : goal.returns-clause-formed
returns-clause-formed c =
    subst (λ (live : List Live). AllByRecursion (λ (index : Live). IsFormed index.def) live) (sym c.self.invariant.state.live) c.self.invariant.state.formed
