use Rattle.std.proofs.Common.{◌<◌, length, arith}
use Rattle.gsi_hub.specs.inner.Steps.{with_wrote}
use Rattle.gsi_hub.specs.inner.Parts.{part_of}
use Rattle.gsi_hub.proofs.PartLists.{part_there, parts_written}
use Rattle.gsi_hub.proofs.parts.wrote_at.Goals as goal

pub wrote-requires-clause-room : goal.wrote-requires-clause-room
wrote-requires-clause-room c =
    let within : c.args.c < length c.args.parts.now.items = omega (arith, c.requires.within, c.args.parts.now.ok.0) in
    c.requires.room (part_of c.index_mut.result.now) (part_there c.args.parts.now.items c.args.c c.index_mut.result.now c.index_mut.ensures.value within)

pub wrote-requires-clause-vbucket : goal.wrote-requires-clause-vbucket
wrote-requires-clause-vbucket c =
    let within : c.args.c < length c.args.parts.now.items = omega (arith, c.requires.within, c.args.parts.now.ok.0) in
    c.requires.vbucket (part_of c.index_mut.result.now) (part_there c.args.parts.now.items c.args.c c.index_mut.result.now c.index_mut.ensures.value within)

pub returns : goal.returns
returns c =
    let within : c.args.c < length c.args.parts.now.items = omega (arith, c.requires.within, c.args.parts.now.ok.0) in
    parts_written c.args.parts.now.items c.args.c c.index_mut.result.now c.wrote.new.self (with_wrote c.args.vb c.args.seqno) c.index_mut.ensures.value within c.wrote.ensures
