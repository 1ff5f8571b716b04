use Rattle.std.proofs.Common.{◌≡◌, ℕ, ap, ◌∙◌, List, Option}
use Rattle.script_text.specs.inner.Demands.{demand_in}
use Rattle.script_text.proofs.DemandLemmas.{none_behind}
use Rattle.script_text.proofs.reporting.demands.reach.Goals as goal

pub places-preserved : goal.places-preserved
places-preserved c =
    λ d. ap (λ (xs : List (Option (List ℕ))). demand_in xs d) c.in_ok-push.ensures.items ∙ (none_behind c.places.demands.items d ∙ c.places.invariant d)
