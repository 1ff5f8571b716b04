use Rattle.std.proofs.Common.{refl}
use Rattle.scan_history.specs.declared.why.Why.TheVariants.{Plain}
use Rattle.scan_history.specs.Events.{refuse, start}
use Rattle.gsi_hub.specs.Past.{part_in}
use Rattle.gsi_hub.specs.Outcomes.{IsStarted}
use Rattle.gsi_hub.specs.declared.started.Started.TheVariants.{Started, Refused}
use Rattle.gsi_hub.proofs.Steps.{such_as}
use Rattle.gsi_hub.proofs.hub.Hub.begin_with.Goals as goal

pub returns-in-Refused : goal.returns-in-Refused
returns-in-Refused c =
    let p = c.args.self.now in
    such_as p c.refuse.new.self c.args.c (refuse c.args.c (part_in p c.args.c).next c.in-Refused.code Plain) (IsStarted (Refused c.in-Refused.code)) refl c.refuse.ensures

pub returns-in-On : goal.returns-in-On
returns-in-On c =
    let p = c.args.self.now in
    such_as p c.begin.new.self c.args.c (start c.args.c (part_in p c.args.c).next c.in-On.i c.in-On.demand) (IsStarted (Started c.in-On.i)) refl c.begin.ensures
