use Rattle.std.proofs.Common.{◌<◌, length, arith}
use Rattle.scan_history.specs.Fold.{closed}
use Rattle.gsi_hub.specs.inner.Parts.{part_of}
use Rattle.gsi_hub.proofs.PartLists.{part_there, parts_written}
use Rattle.gsi_hub.proofs.parts.close_at.Goals as goal

pub close-requires : goal.close-requires
close-requires c =
    let within : c.args.c < length c.args.parts.now.items = omega (arith, c.requires.within, c.args.parts.now.ok.0) in
    c.requires.room (part_of c.index_mut.result.now) (part_there c.args.parts.now.items c.args.c c.index_mut.result.now c.index_mut.ensures.value within)

pub returns : goal.returns
returns c =
    let within : c.args.c < length c.args.parts.now.items = omega (arith, c.requires.within, c.args.parts.now.ok.0) in
    parts_written c.args.parts.now.items c.args.c c.index_mut.result.now c.close.new.self closed c.index_mut.ensures.value within c.close.ensures
