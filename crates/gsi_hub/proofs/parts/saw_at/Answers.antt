use Rattle.std.proofs.Common.{◌<◌, length, arith}
use Rattle.gsi_hub.specs.inner.Steps.{with_seen}
use Rattle.gsi_hub.specs.inner.Parts.{part_of}
use Rattle.gsi_hub.proofs.PartLists.{part_there, parts_written}
use Rattle.gsi_hub.proofs.parts.saw_at.Goals as goal

pub saw-requires-clause-room : goal.saw-requires-clause-room
saw-requires-clause-room c =
    let within : c.args.c < length c.args.parts.now.items = omega (arith, c.requires.within, c.args.parts.now.ok.0) in
    c.requires.room (part_of c.index_mut.result.now) (part_there c.args.parts.now.items c.args.c c.index_mut.result.now c.index_mut.ensures.value within)

pub saw-requires-clause-size : goal.saw-requires-clause-size
saw-requires-clause-size c =
    let within : c.args.c < length c.args.parts.now.items = omega (arith, c.requires.within, c.args.parts.now.ok.0) in
    c.requires.size (part_of c.index_mut.result.now) (part_there c.args.parts.now.items c.args.c c.index_mut.result.now c.index_mut.ensures.value within)

pub returns : goal.returns
returns c =
    let within : c.args.c < length c.args.parts.now.items = omega (arith, c.requires.within, c.args.parts.now.ok.0) in
    parts_written c.args.parts.now.items c.args.c c.index_mut.result.now c.saw.new.self (with_seen c.args.at.now) c.index_mut.ensures.value within c.saw.ensures
