use Rattle.std.proofs.Common.{◌≡◌, Some, sym, ap, ◌∙◌}
use Rattle.index_def.specs.LiveIndexes.{numbered}
use Rattle.gsi_hub.specs.Past.{state_of}
use Rattle.gsi_sched.proofs.SentPieces.{projected_ok, one_formed}
use Rattle.gsi_sched.proofs.machine.sending.project_one.Goals as goal

pub project-requires : goal.project-requires
project-requires c =
    one_formed c.args.i c.catalog.result.now.live c.in-Some.index.now c.in_ok-numbered-in-Some.field-0 c.catalog.ensures.formed (sym c.in-Some.ensures) c.in_ok-numbered-in-Some.ensures

pub returns : goal.returns
returns c =
    let index = c.in-Some.index.now in
    let found : numbered c.args.i (state_of c.args.hub.now).live ≡ Some index = ap (numbered c.args.i) (sym c.catalog.ensures.live) ∙ sym c.in-Some.ensures in
    projected_ok c.project.result c.args.i (state_of c.args.hub.now).live c.args.piece.now c.in_ok-numbered-in-Some.field-0 index found c.in_ok-numbered-in-Some.ensures c.project.ensures.projected
