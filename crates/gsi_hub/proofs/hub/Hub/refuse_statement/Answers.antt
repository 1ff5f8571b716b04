use Rattle.std.proofs.Common.{refl}
use Rattle.scan_history.specs.Events.{refuse}
use Rattle.gsi_hub.specs.Past.{part_in}
use Rattle.gsi_hub.specs.Outcomes.{IsDefined}
use Rattle.gsi_hub.specs.declared.defined.Defined.TheVariants.{Refused}
use Rattle.gsi_hub.proofs.Steps.{such_as}
use Rattle.gsi_hub.proofs.hub.Hub.refuse_statement.Goals as goal

pub returns : goal.returns
returns c =
    let p = c.args.self.now in
    such_as p c.refuse.new.self c.args.c (refuse c.args.c (part_in p c.args.c).next c.args.number c.args.why) (IsDefined (Refused c.args.number)) refl c.refuse.ensures
