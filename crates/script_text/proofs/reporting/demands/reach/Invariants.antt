use Rattle.std.proofs.Common.{◌≡◌, ℕ, ◌+◌, ◌-◌}
use Rattle.std.specs.Prelude.{vec_len}
use Rattle.script_text.specs.inner.Demands.{demand_in}
use Rattle.script_text.proofs.reporting.demands.reach.Given as goal

abbrev pub invariant-places : goal.invariant-places
invariant-places l = (d : ℕ) → demand_in l.demands.items d ≡ demand_in l.fn.demands.items d

abbrev pub decreases-places : goal.decreases-places
decreases-places l = l.place + 1 - vec_len l.demands
