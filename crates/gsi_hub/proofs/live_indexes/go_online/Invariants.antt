use Rattle.std.proofs.Common.{◌≡◌, drop}
use Rattle.std.specs.List.{AllByRecursion}
use Rattle.n1ql_value.specs.declared.state.State.TheVariants.{Online}
use Rattle.index_def.specs.LiveIndexes.{numbered, all_in_state}
use Rattle.gsi_hub.specs.inner.Kept.{IsServed}
use Rattle.gsi_hub.proofs.live_indexes.go_online.Given as goal

abbrev pub invariant-loop-number : goal.invariant-loop-number
invariant-loop-number l =
    (all_in_state (drop l.number-index l.numbers) Online l.catalog.live ≡ all_in_state l.numbers Online l.initial.catalog.live)
    × (l.catalog.made ≡ l.initial.catalog.made)
    × AllByRecursion (λ i. IsServed (numbered i l.catalog.live)) (drop l.number-index l.numbers)
