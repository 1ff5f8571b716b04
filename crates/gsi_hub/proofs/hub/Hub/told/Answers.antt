use Rattle.std.proofs.Common.{subst}
use Rattle.scan_history.specs.Legal.{IsLegal}
use Rattle.scan_history.specs.Sound.{IsSound}
use Rattle.gsi_hub.specs.Past.{Past}
use Rattle.gsi_hub.proofs.hub.Hub.told.Goals as goal

pub returns-clause-sound : goal.returns-clause-sound
returns-clause-sound c = subst (λ (q : Past). IsSound q.script) c.self.view_is c.self.invariant.sound

pub returns-clause-legal : goal.returns-clause-legal
returns-clause-legal c = subst (λ (q : Past). IsLegal q.script q.events) c.self.view_is c.self.invariant.legal
