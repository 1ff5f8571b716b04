use Rattle.std.proofs.Common.{◌<◌, length, arith}
use Rattle.gsi_hub.specs.inner.Steps.{with_work}
use Rattle.gsi_hub.specs.inner.Parts.{part_of}
use Rattle.gsi_hub.proofs.PartLists.{part_there, parts_written}
use Rattle.gsi_hub.proofs.parts.define_at.Goals as goal

pub define-requires : goal.define-requires
define-requires c =
    let within : c.args.c < length c.args.parts.now.items = omega (arith, c.requires.within, c.args.parts.now.ok.0) in
    c.requires.room (part_of c.index_mut.result.now) (part_there c.args.parts.now.items c.args.c c.index_mut.result.now c.index_mut.ensures.value within)

pub returns : goal.returns
returns c =
    let within : c.args.c < length c.args.parts.now.items = omega (arith, c.requires.within, c.args.parts.now.ok.0) in
    parts_written c.args.parts.now.items c.args.c c.index_mut.result.now c.define.new.self (with_work c.args.work) c.index_mut.ensures.value within c.define.ensures
