use Rattle.std.proofs.Common.{◌≡◌, subst}
use Rattle.scan_history.specs.Legal.{IsLegal}
use Rattle.gsi_hub.specs.Past.{Past, state_of}
use Rattle.gsi_hub.proofs.hub.Hub.store.Goals as goal

pub returns-clause-log : goal.returns-clause-log
returns-clause-log c = subst (λ (q : Past). c.self.inside.store.log ≡ (state_of q).log) c.self.view_is c.self.invariant.state.log

pub returns-clause-vbuckets : goal.returns-clause-vbuckets
returns-clause-vbuckets c = subst (λ (q : Past). c.self.inside.store.vbuckets ≡ q.script.vbuckets) c.self.view_is c.self.invariant.state.vbuckets

pub returns-clause-legal : goal.returns-clause-legal
returns-clause-legal c = subst (λ (q : Past). IsLegal q.script q.events) c.self.view_is c.self.invariant.legal
