use Rattle.std.proofs.Common.{◌≡◌, drop}
use Rattle.n1ql_spans.specs.Choice.{choice_of}
use Rattle.n1ql_plan.specs.Plans.{serving}
use Rattle.n1ql_plan.specs.inner.Held.{held_in}
use Rattle.n1ql_plan.proofs.choice.choose.Given as goal

abbrev pub invariant-loop-at : goal.invariant-loop-at
invariant-loop-at l = held_in l.best ≡ choice_of l.q (serving (drop l.at l.catalog.live))
