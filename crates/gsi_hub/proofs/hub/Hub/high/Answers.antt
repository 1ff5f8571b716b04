use Rattle.std.proofs.Common.{◌≡◌, ℕ, List, length, ap, ◌∙◌, subst}
use Rattle.std.specs.Arc.{arc_value}
use Rattle.vb_store.specs.declared.mutation.Mutation.{Mutation}
use Rattle.vb_store.specs.Mutations.{high_of}
use Rattle.gsi_hub.specs.Past.{Past, high_in}
use Rattle.gsi_hub.proofs.hub.Hub.high.Goals as goal

pub returns-clause-newest : goal.returns-clause-newest
returns-clause-newest c =
    let held = c.self.invariant.state in
    subst (λ (q : Past). c.high.result.now ≡ high_in q) c.self.view_is
    (c.high.ensures.newest ∙ (ap (λ (n : ℕ). high_of n c.self.inside.store.log) held.vbuckets
    ∙ ap (λ (log : List Mutation). high_of (arc_value c.self.inside.script).vbuckets log) held.log))

pub returns-clause-size : goal.returns-clause-size
returns-clause-size c =
    subst (λ (q : Past). length c.high.result.now ≡ q.script.vbuckets) c.self.view_is
    (ap length c.high.ensures.newest ∙ (c.high_counts.ensures.size c.self.inside.store.vbuckets c.self.inside.store.log ∙ c.self.invariant.state.vbuckets))
