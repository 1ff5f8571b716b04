use Rattle.std.proofs.Common.{rules, ◌≡◌, ap, sym, ◌∙◌, Some}
use Rattle.std.specs.Option.{option_copied}
use Rattle.index_def.specs.LiveIndexes.{numbered}
use Rattle.gsi_hub_tests.proofs.Found.{formed_found}
use Rattle.gsi_hub_tests.proofs.snapshots.snapshot_of.Goals as goal

pub snapshot_on-requires-clause-formed : goal.snapshot_on-requires-clause-formed
snapshot_on-requires-clause-formed c =
    formed_found c.args.i c.catalog.result.now.live c.in-Some.index.now c.catalog.ensures.formed (sym c.numbered.ensures ∙ ap option_copied c.in-Some.is)
