use Rattle.std.proofs.Common.{◌≡◌, map, take}
use Rattle.std.specs.Arc.{arc_value}
use Rattle.vb_store.proofs.muts.Muts.of.Given as goal

abbrev pub invariant-loop-mutation : goal.invariant-loop-mutation
invariant-loop-mutation l = map arc_value l.items.items ≡ map arc_value (take l.mutation-index l.mutations)
