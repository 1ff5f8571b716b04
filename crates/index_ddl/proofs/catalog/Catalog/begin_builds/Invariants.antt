use Rattle.std.proofs.Common.{◌≡◌, drop}
use Rattle.n1ql_value.specs.declared.state.State.TheVariants.{Building}
use Rattle.index_def.specs.LiveIndexes.{all_in_state}
use Rattle.index_ddl.proofs.catalog.Catalog.begin_builds.Given as goal

abbrev pub invariant-loop-number : goal.invariant-loop-number
invariant-loop-number l =
    (all_in_state (drop l.number-index l.numbers) Building l.self.live ≡ all_in_state l.numbers Building l.initial.self.live) × (l.self.made ≡ l.initial.self.made)
